pub mod RefusalLaws
pub mod PhaseLaws
