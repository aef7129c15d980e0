pub mod TextUnderstood
