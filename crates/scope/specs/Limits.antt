-- The limits and counts of document 01, under the names that the code has too.
use Rattle.std.specs.Prelude.{ℕ}

-- "Nodes 0 to 4,096; children over all nodes ever made 0 to 16,384"
abbrev pub MAX_NODES : ℕ
MAX_NODES = 4096

abbrev pub MAX_CHILDREN : ℕ
MAX_CHILDREN = 16384

-- "255 children a kind"
abbrev pub MAX_WIDTH : ℕ
MAX_WIDTH = 255

-- "255 parameters"; "over 255 listed types or parameters"
abbrev pub MAX_LIST : ℕ
MAX_LIST = 255

-- "texts 65,535 bytes; chart 1,024 records; names and paths 1 to 255 bytes"
abbrev pub MAX_TEXT : ℕ
MAX_TEXT = 65535

abbrev pub MAX_RECORDS : ℕ
MAX_RECORDS = 1024

abbrev pub MAX_NAME : ℕ
MAX_NAME = 255

-- "trait fn: 0 to 7"
abbrev pub MAX_SORT : ℕ
MAX_SORT = 7

-- "the four texts of `sigil` for `Flex`"
abbrev pub SIGILS : ℕ
SIGILS = 4

-- "`Flex` 0 to 3 in its order"
abbrev pub MAX_FLEX : ℕ
MAX_FLEX = 3

-- "The fifteen kinds"
abbrev pub KINDS : ℕ
KINDS = 15

-- "4,294,967,295 is `Span::NONE`", and the number that means no fn trait
abbrev pub NONE : ℕ
NONE = 4294967295

-- "a u64 that stops at its largest value"
abbrev pub MAX_REPORTS : ℕ
MAX_REPORTS = 18446744073709551615

-- of 02's named states: "at most eight names of 1 to 255 bytes"
abbrev pub MAX_STATES : ℕ
MAX_STATES = 8

abbrev pub MAX_STATE_NAME : ℕ
MAX_STATE_NAME = 255

-- of program `sheet`: "one over 255 bytes is a bad line"
abbrev pub MAX_LINE : ℕ
MAX_LINE = 255

-- "A node has one to four decimal digits"
abbrev pub MAX_DIGITS : ℕ
MAX_DIGITS = 4

-- "`sheet` opens 256 nodes and 1,024 children", "and its text buffer is 4,096 bytes"
abbrev pub SHEET_NODES : ℕ
SHEET_NODES = 256

abbrev pub SHEET_CHILDREN : ℕ
SHEET_CHILDREN = 1024

abbrev pub SHEET_TEXT : ℕ
SHEET_TEXT = 4096
