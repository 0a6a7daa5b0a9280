pub mod WrittenAgain
pub mod Said
