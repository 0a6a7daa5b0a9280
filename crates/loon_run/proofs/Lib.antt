mod Lists
mod Numbered
mod Refusing
mod Writing
mod Bare
