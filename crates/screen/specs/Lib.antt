-- Letters of our names, after escapes
pub mod Letters
-- Places in a text, where its values begin
pub mod Places
-- The tracks in the text of a message
pub mod Texts
