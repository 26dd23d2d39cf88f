mod NoRefusal
mod Numbering
mod Ending
mod Added
