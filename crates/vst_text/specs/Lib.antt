pub mod Vst
pub mod VstReading
pub mod Laws
