-- Cutting: from the bytes at a place to the next token
pub mod Cutting
-- Names: words that are names of licences
pub mod Names
-- Steps: the reader, token by token
pub mod Steps
-- Fitting: which parts may follow one another
pub mod Fitting
-- Written: from tokens to parts and back
pub mod Written
-- Building: parts that fit spell a tree
pub mod Building
-- OneTree: parts spell one tree at most
pub mod OneTree
-- Viable: which fronts of tokens can be completed, and what is expected after one
pub mod Viable
-- Truth: going over the parts gives the truth of the tree
pub mod Truth
-- Allowing: licences in a list
pub mod Allowing
-- Printing: what is printed reads as the same parts
pub mod Printing
-- One: a text that is one licence
pub mod One
