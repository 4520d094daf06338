mod Decimals
mod Digits
mod Many
mod Runs
mod Texts
