-- `Kept` has what is left behind a refusal's number, `Answers` what the registrar answers as numbers, `Opening` how the small-registrar profile opens.
mod Kept
mod Answers
mod Opening
