pub mod Trees
pub mod Names
pub mod Standing
pub mod Written
pub mod SoundFiles
