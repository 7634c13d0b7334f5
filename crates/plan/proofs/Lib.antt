pub mod Splices
pub mod Rows
pub mod Judging
pub mod Runs
pub mod StackWords
pub mod StackLines
pub mod PlanLines
