-- Lemmas on what a call that appends leaves.
pub mod Appends
pub mod CutParts
pub mod FieldTexts
