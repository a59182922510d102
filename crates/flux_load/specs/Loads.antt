-- The texts of a load.
use Rattle.std.specs.Prelude.{ℕ, zero, suc, ◌+◌, ◌*◌, ◌%◌, List, [], ◌++◌, codes}
use Rattle.std.specs.Fmt.{decimal}

-- the program
abbrev pub program_text : List ℕ
program_text = codes "Tick () => (int n);\nPass (int n) => (int n);\nAdd (int n) => (int n);\nBump (int n) => (int n);\ntypedef zero IsZero;\nsource Tick => Load;\nsession Tick => ByNumber;\nLoad:[zero] = Pass;\nLoad:[_] = Visit -> Add;\nVisit = Bump;\natomic Load:{aisle?};\natomic Visit:{zone?};\natomic Bump:{visits(session)};\natomic Add:{counter};\n"

-- the line of the item at a place, counted from 0: its number is the last digit of a first number and 7 for each place
abbrev pub item_line : ℕ → ℕ → List ℕ
item_line first place = codes "Tick (" ++ decimal ((first + 7 * place) % 10) ++ codes ")\n"

-- the items, so many, in order
abbrev pub items_text : ℕ → ℕ → List ℕ
items_text zero first = []
items_text (suc count) first = items_text count first ++ item_line first count
