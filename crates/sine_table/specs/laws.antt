-- what follows from them
pub mod Computed
pub mod TableLaws
pub mod RoomLaws
pub mod Rising
