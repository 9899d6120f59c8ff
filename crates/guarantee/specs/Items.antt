-- Lists of calls and feeds: each comes to a list of calls, of which demand 3 speaks.
use Rattle.std.specs.Prelude.{ℕ, ◌+◌, ◌<◌, true, List, [], ◌∷◌, ◌++◌, ◌≡◌, ℤ, pos, length, get_or}
use Rattle.std.specs.Int.{w8, w16}
use Rattle.std.proofs.Common.{SFits}
use Rattle.receiver.specs.Started.{new_kept}
use Rattle.guarantee.specs.Calls.{Call, CallFits, System, Told, after_call, after_calls, begins, told_by}
use Rattle.guarantee.specs.History.{History, begins_with, happen_all, loses_by, next_in}
use Rattle.guarantee.specs.Demand.{Demand3, kept_after}
use Rattle.guarantee.specs.Feeds.{Feed, FeedIs, FeedTold, after_feed, calls_from, fed_by, told_feed}

pub data Item : Type 0 where
  call : Call → Item
  feed : Feed → Item

-- what the types of an item say: of a feed, signed bytes and a table of 16 bits
pub record FeedFits (d : Feed) : Type 0 where
  pub bytes : (k : ℕ) → k < length d.block.bytes → SFits w8 (get_or d.block.bytes k (pos 0))
  pub table : (k : ℕ) → k < length d.block.table → SFits w16 (get_or d.block.table k (pos 0))

abbrev pub ItemFits : Item → Type 0
ItemFits (call c) = CallFits c
ItemFits (feed d) = FeedFits d

abbrev pub ItemsFit : List Item → Type 0
ItemsFit [] = Unit {0}
ItemsFit (x ∷ xs) = ItemFits x × ItemsFit xs

-- what an item leaves
unfoldable pub after_item : System → Item → System
after_item s (call c) = after_call s c
after_item s (feed d) = after_feed s d

unfoldable pub after_items : System → List Item → System
after_items s [] = s
after_items s (x ∷ xs) = after_items (after_item s x) xs

-- the calls that an item comes to for a receiver that stands so: of a feed, the symbols that it uses
unfoldable pub calls_of : System → Item → List Call
calls_of s (call c) = c ∷ []
calls_of s (feed d) = calls_from d 0 (fed_by s d).used

unfoldable pub calls_of_all : System → List Item → List Call
calls_of_all s [] = []
calls_of_all s (x ∷ xs) = calls_of s x ++ calls_of_all (after_item s x) xs

-- what an item tells: a feed also how many symbols it used
pub data ItemTold : Type 0 where
  called : Told → ItemTold
  fed : (used : ℕ) → Told → ItemTold

unfoldable pub told_item : System → Item → ItemTold
told_item s (call c) = called (told_by s c)
told_item s (feed d) = fed (fed_by s d).used (told_feed s d)

unfoldable pub told_items : System → List Item → List ItemTold
told_items s [] = []
told_items s (x ∷ xs) = told_item s x ∷ told_items (after_item s x) xs

-- ---- THE CLAIM, of every list of calls and feeds from a new receiver on
-- a loss by the call c that an item x comes to; h is the history before that call, ds the item's calls after it
pub record ItemLost (h : History) (s : System) (x : Item) (c : Call) (ds : List Call) (rest : List Item) : Type 0 where
  -- there are none: it was the item's last
  pub last : ds ≡ []
  -- "from the next call on, its answers equal those of a new receiver started at that loss's restart position with the kept values of 01 and given the same
  -- calls": the same feeds too, each of which uses as many symbols, whatever that one's slot store holds
  pub like_new : (store : List ℤ) → length store ≡ 18592 → told_items (after_item s x) rest ≡ told_items (begins (next_in h + 1) (kept_after h c) store) rest

module _ (at : ℕ) (step : ℤ) (store : List ℤ) where
  abbrev new : System
  new = begins at (new_kept step) store

  -- the history of the calls that a list comes to
  abbrev history_of : List Call → History
  history_of cs = happen_all (begins_with at (new_kept step)) cs

  pub record ItemsAre (xs : List Item) : Type 0 where
    -- they leave what those calls leave
    pub after : after_items new xs ≡ after_calls new (calls_of_all new xs)
    -- of which demand 3 holds
    pub demand : Demand3 at step store (calls_of_all new xs)
    -- each feed tells what its calls tell to the receiver that the calls before leave, and refuses and uses symbols by their history
    pub feeds : (before : List Item) (d : Feed) (rest : List Item) → xs ≡ before ++ (feed d ∷ rest) → FeedIs (after_items new before) d
    pub feeds-told : (before : List Item) (d : Feed) (rest : List Item) → xs ≡ before ++ (feed d ∷ rest) →
        FeedTold (history_of (calls_of_all new before)) (after_items new before) d
    -- every loss
    pub losses : (before : List Item) (x : Item) (rest : List Item) → xs ≡ before ++ (x ∷ rest) →
        (cs : List Call) (c : Call) (ds : List Call) → calls_of (after_items new before) x ≡ cs ++ (c ∷ ds) →
        let h = history_of (calls_of_all new before ++ cs) in loses_by h c ≡ true → ItemLost h (after_items new before) x c ds rest

abbrev pub ItemsClaim : Type 0
ItemsClaim = (at : ℕ) (step : ℤ) (store : List ℤ) (xs : List Item) → length store ≡ 18592 → ItemsFit xs → ItemsAre at step store xs
