-- The refusals: a name for each number. 0 is no refusal: what has this number is accepted.
-- Written by tools/written.py from tools/language.py; `python3 tools/written.py` makes it again.
use Rattle.std.specs.Prelude.{ℕ}

-- of a run

-- the row table has under 24 words, or the cell store under 8
abbrev pub slices : ℕ
slices = 1

-- it has over 65,536 bytes
abbrev pub bytes : ℕ
bytes = 2

-- it ends early; or its nesting limit is outside 1 to 4,096; or a byte is no code or kind for its spot
abbrev pub unread : ℕ
unread = 3

-- the answer slice has under four words a call
abbrev pub answers : ℕ
answers = 4

-- of a call, before it is walked

-- the dimension count or the context length passes 33
abbrev pub scope : ℕ
scope = 5

-- the depth passes 32 (the outermost node is at 0), or the nodes of the call pass 10,000
abbrev pub size : ℕ
size = 6

-- an index or a level passes 32
abbrev pub index : ℕ
index = 7

-- of a call, where the walk stops

-- a variable has no type in the context
abbrev pub unbound : ℕ
unbound = 8

-- the function of an application has no pi type after `expose`
abbrev pub no_function : ℕ
no_function = 9

-- the path of a papp has no path type after `expose`
abbrev pub no_path : ℕ
no_path = 10

-- a term wanted as a type has no universe after `expose`
abbrev pub no_type : ℕ
no_type = 11

-- a conversion finds two universe levels
abbrev pub levels : ℕ
levels = 12

-- two normalised sides have different quotes
abbrev pub quotes : ℕ
quotes = 13

-- `normalize` meets a reduction whose type is not quoted as the one wanted
abbrev pub step_type : ℕ
step_type = 14

-- there is a 33rd root reduction
abbrev pub reductions : ℕ
reductions = 15

-- a 33rd conversion would be nested
abbrev pub conversions : ℕ
conversions = 16

-- a dimension is not below the dimension count
abbrev pub dimension : ℕ
dimension = 17

-- a new row is needed, and 50,000, or all that the table holds, are used
abbrev pub rows : ℕ
rows = 18

-- a function would be entered past the nesting limit
abbrev pub nesting : ℕ
nesting = 19

-- a new cell is needed, and none is left, or 4,294,967,295 are used
abbrev pub cells : ℕ
cells = 20

-- the subject of a projection has no sigma type after `expose`
abbrev pub no_sigma : ℕ
no_sigma = 21

-- the annotation of a pair is not written as a sigma
abbrev pub annotation : ℕ
annotation = 22

-- of a call with many types, before 5

-- the count of its types is 0 or above 16
abbrev pub count : ℕ
count = 23
