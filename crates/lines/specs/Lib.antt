-- Nobody has to believe it, what an iterator over lines has left: it cites the definition of the lines of a sheet.
pub mod Left
