-- what to believe: the mirror of a request, second by second and entry by entry; of its bytes
pub mod Mirror
pub mod Bytes
pub mod laws
