pub mod Spelling
mod SoundKeys
mod CheckStatus
