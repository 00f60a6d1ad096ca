-- What a loop has found and what is left is one fold, so a turn is std's `fold-append`.
pub mod Finding
