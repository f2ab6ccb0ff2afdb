pub mod OptionsOfWords
