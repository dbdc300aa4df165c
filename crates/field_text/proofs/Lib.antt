pub mod DigitLemmas
pub mod ScanLemmas
pub mod TextLemmas
