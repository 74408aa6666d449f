pub mod CalendarLaws
pub mod NumberLaws
