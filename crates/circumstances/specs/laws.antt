-- laws, for callers and for the proofs
pub mod SheetSound
pub mod Claims
