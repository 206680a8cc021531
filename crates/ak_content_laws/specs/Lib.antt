pub mod KeptContents
pub mod SoundCalls
