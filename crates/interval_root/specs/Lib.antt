-- Nobody has to believe it: a guess only says where a search begins.
pub mod Leading
