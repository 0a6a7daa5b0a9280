pub mod OneMachine
pub mod EachText
pub mod FewNames
pub mod Again
