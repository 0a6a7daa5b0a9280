pub mod NoPragmas
