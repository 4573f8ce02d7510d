pub mod BudgetLaws
pub mod LoopLaws
pub mod ShownLaws
pub mod NoteLaws
pub mod StoreLaws
pub mod PurgeLaws
pub mod MarkLaws
pub mod LineLaws
