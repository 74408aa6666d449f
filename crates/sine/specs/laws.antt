-- what follows from them
pub mod FirstQuadrantLaws
pub mod SineLaws
pub mod OppositeLaws
pub mod SizeLaws
pub mod Examples
