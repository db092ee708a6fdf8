-- Rows of definitions that say what calls return: what follows from each in one case. A definition
-- that said less would be refused here.
use Rattle.std.specs.Prelude.{◌≡◌, Option, None, Some}
use Rattle.duration_str_help.specs.Mends.{HasPieces, Pieces, suggestion_text}
use Rattle.duration_str_help.specs.declared.mend.Mend.{Mend}

pub no_pieces : (pieces : Option Pieces) → HasPieces pieces None → pieces ≡ None
no_pieces pieces is = is

pub has_these_pieces : (pieces : Option Pieces) (new : Mend) → HasPieces pieces (Some new)
    → pieces ≡ Some (record {
      front = new.front.now;
      replaced = new.replaced.now;
      written = suggestion_text new.suggestion;
      rest = new.rest.now;
    })
has_these_pieces pieces new is = is
