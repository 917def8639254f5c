-- A refusal as text: the word of document 01's listing, number and place. Example: of a loud cell 17 it is "refused 3 17".
use Rattle.std.specs.Prelude.{List, ℕ, ◌++◌, codes}
use Rattle.std.specs.Fmt.{decimal}
use Rattle.refusal.specs.declared.Refusal.{Refusal}
use Rattle.refusal.specs.RefusalTable.{number, place}

abbrev pub refusal_text : Refusal → List ℕ
refusal_text refusal = codes "refused " ++ decimal (number refusal) ++ codes " " ++ decimal (place refusal)
