mod Members
mod Spread
mod Routable
mod Building
mod Few
