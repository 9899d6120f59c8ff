-- The symbols that wait, as a list.
use Rattle.std.specs.Prelude.{List, [], ◌∷◌, take}
use Rattle.frame_line.specs.declared.Meta.{Meta}
use Rattle.frame_line.specs.declared.Metas.{Metas}

-- the oldest first
unfoldable pub waiting_of : Metas → List Meta
waiting_of w = take w.count (w.first ∷ w.second ∷ w.third ∷ w.fourth ∷ w.fifth ∷ [])
