pub mod MergedKeys
