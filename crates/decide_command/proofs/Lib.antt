mod Spelling
mod Findings
