mod Few
mod Refusing
