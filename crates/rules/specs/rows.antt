-- Rows that try the definitions of the folder above, a sentence of document 01, of document 02 or of
-- ours over each. proofs/ computes them.
pub mod Row
pub mod Machine
pub mod Table
pub mod Refusals
pub mod HouseRows
pub mod RegisterRows
pub mod StationRows
pub mod RegisterRefusals
pub mod FurtherRows
pub mod BrowseRows
pub mod SheetRows
pub mod Texts
pub mod TextRows
pub mod StringRows
pub mod ScreenRows
pub mod ReadingRows
