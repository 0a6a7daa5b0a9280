mod Printed
mod Refusing
mod Declared
mod Single
mod Free
mod EncodedCodes
