pub mod LoadingRules
