-- Rows that try the definitions of the folder above, a sentence of the format over each. proofs/
-- computes them. What a row is, rules tells.
pub mod Told
pub mod WordRows
pub mod LineRows
pub mod FaultRows
pub mod RecordingRows
