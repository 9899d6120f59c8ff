-- Lists of calls and feeds come to lists of calls. Assumes nothing.
use Prim.Native.Nat.{ℕ, zero, suc, ◌+◌, ◌≤◌}
use mathlib.Core.Bool.{true}
use mathlib.Core.List.{List, [], ◌∷◌, ◌++◌}
use mathlib.Core.Path.{◌≡◌, ◌∙◌, ap, ap₂, refl, subst, sym}
use native.Mathlib.Omega.{arith}
use borrow.Author.Tests.{eqb-false, eqb-true}
use lib.Dec.{eqb}
use lib.ListN.{length, length-append}
use Rattle.laws.proofs.Tests.{by_test}
use Rattle.receiver.specs.Feed.{symbols_of}
use Rattle.receiver.specs.Started.{new_kept}
use Rattle.sync_step.specs.Events.{no_events}
use Rattle.guarantee.proofs.Feeds as Fed
use Rattle.guarantee.proofs.FeedsAlike.{items_same}
use Rattle.guarantee.proofs.FeedsTold.{feed_told, input_fits}
use Rattle.guarantee.proofs.Lists.{call_steps, calls_tied, fit_before, new_tied}
use Rattle.guarantee.proofs.Losses.{begins-same, lost-begins, lost-told-by, no_losses, none_lost}
use Rattle.guarantee.proofs.Theorems.{demand_3}
use Rattle.guarantee.proofs.Tied.{Tied}
use Rattle.guarantee.specs.Calls.{Call, CallFits, CallsFit, System, after_call, after_calls, begins, told_by}
use Rattle.guarantee.specs.Demand.{Among, LostAt, kept_after}
use Rattle.guarantee.specs.Feeds.{Feed, call_at, calls_from, fed_by}
use Rattle.guarantee.specs.History.{History, begins_with, happen_all, happens, loses_by, next_in}
use Rattle.guarantee.specs.Items.{Item, ItemLost, FeedFits, ItemFits, ItemsFit, ItemsClaim, after_item, after_items, calls_of, calls_of_all, told_items}
use Rattle.guarantee.specs.Items.{call, feed}

-- ---- lists one after another
calls_append : (s : System) (a b : List Call) → after_calls s (a ++ b) ≡ after_calls (after_calls s a) b
unfolding after_calls
calls_append s [] b = refl
calls_append s (c ∷ a) b = calls_append (after_call s c) a b

fits_append : (a b : List Call) → CallsFit a → CallsFit b → CallsFit (a ++ b)
fits_append [] b f g = g
fits_append (c ∷ a) b f g = (f.0, fits_append a b f.1 g)

-- ---- one item
item_after : (s : System) (x : Item) → after_item s x ≡ after_calls s (calls_of s x)
unfolding after_item calls_of after_calls
item_after s (call c) = refl
item_after s (feed d) = (Fed.feeds s d).after

-- n symbols from symbol i on are of those types
symbols_fit : (d : Feed) → FeedFits d → (n i : ℕ) → i + n ≤ symbols_of d.block → CallsFit (calls_from d i n)
unfolding calls_from call_at
symbols_fit d f zero i h = tt
symbols_fit d f (suc n) i h =
    (input_fits d f i (omega (arith, h)), symbols_fit d f n (i + 1) (omega (arith, h)))

item_fits_feed : (s : System) (d : Feed) → FeedFits d → CallsFit (calls_from d 0 (fed_by s d).used)
item_fits_feed s d f = symbols_fit d f (fed_by s d).used 0 (omega (arith, (Fed.feeds s d).within))

item_fits : (s : System) (x : Item) → ItemFits x → CallsFit (calls_of s x)
unfolding calls_of
item_fits s (call c) f = (f, tt)
item_fits s (feed d) f = item_fits_feed s d f

-- ---- all items
items_after : (s : System) (xs : List Item) → after_items s xs ≡ after_calls s (calls_of_all s xs)
unfolding after_items calls_of_all after_calls
items_after s [] = refl
items_after s (x ∷ xs) =
    let r = after_item s x in
    items_after r xs ∙ ap (λ (q : System). after_calls q (calls_of_all r xs)) (item_after s x) ∙ sym (calls_append s (calls_of s x) (calls_of_all r xs))

items_fit : (s : System) (xs : List Item) → ItemsFit xs → CallsFit (calls_of_all s xs)
unfolding calls_of_all
items_fit s [] f = tt
items_fit s (x ∷ xs) f = fits_append (calls_of s x) (calls_of_all (after_item s x) xs) (item_fits s x f.0) (items_fit (after_item s x) xs f.1)

-- ---- a list's first items fit, and its next
items_before : (before : List Item) (x : Item) (rest : List Item) → ItemsFit (before ++ (x ∷ rest)) → ItemsFit before × ItemFits x
items_before [] x rest f = (tt, f.0)
items_before (y ∷ before) x rest f = let g = items_before before x rest f.1 in ((f.0, g.0), g.1)

-- ---- the calls of a feed, cut at one of them
pub record Cut (d : Feed) (i n : ℕ) (cs : List Call) (c : Call) (ds : List Call) : Type 0 where
  pub before : cs ≡ calls_from d i (length cs)
  pub here : c ≡ call_at d (i + length cs)
  pub count : n ≡ length cs + suc (length ds)

heads_equal : {a b : Call} {us vs : List Call} → ◌≡◌ {A = List Call} (a ∷ us) (b ∷ vs) → a ≡ b
heads_equal {a} e = ap (head_or a) e
  where
    head_or : Call → List Call → Call
    head_or a [] = a
    head_or a (c ∷ cs) = c

tails_equal : {a b : Call} {us vs : List Call} → ◌≡◌ {A = List Call} (a ∷ us) (b ∷ vs) → us ≡ vs
tails_equal e = ap tail_of e
  where
    tail_of : List Call → List Call
    tail_of [] = []
    tail_of (c ∷ cs) = cs

calls_count : (d : Feed) (i n : ℕ) → length (calls_from d i n) ≡ n
unfolding calls_from
calls_count d i zero = refl
calls_count d i (suc n) = ap suc (calls_count d (i + 1) n)

cut : (d : Feed) (i n : ℕ) (cs : List Call) (c : Call) (ds : List Call) → calls_from d i n ≡ cs ++ (c ∷ ds) → Cut d i n cs c ds
unfolding calls_from
cut d i zero [] c ds e = absurd (no-calls (ap length e))
  where
    no-calls : 0 ≡ suc (length ds) → ⊥
    no-calls q = omega (arith, q)
cut d i zero (y ∷ cs) c ds e = absurd (no-calls (ap length e))
  where
    no-calls : 0 ≡ suc (length (cs ++ (c ∷ ds))) → ⊥
    no-calls q = omega (arith, q)
cut d i (suc n) [] c ds e =
    let z : i + 0 ≡ i = omega arith in
    record {
      before = refl;
      here = sym (heads_equal e) ∙ ap (call_at d) (sym z);
      count = let q = sym (calls_count d (i + 1) n) ∙ ap length (tails_equal e) in omega (arith, q);
    }
cut d i (suc n) (y ∷ cs) c ds e =
    let w = cut d (i + 1) n cs c ds (tails_equal e) in
    let z : i + 1 + length cs ≡ i + suc (length cs) = omega arith in
    record {
      before = ap₂ (λ (u : Call) (us : List Call). u ∷ us) (sym (heads_equal e)) w.before;
      here = w.here ∙ ap (call_at d) z;
      count = omega (arith, w.count);
    }

none_left : (ds : List Call) → length ds ≡ 0 → ds ≡ []
none_left [] e = refl
none_left (c ∷ ds) e = absurd (omega (arith, e))

-- ---- a loss
module _ (s : System) (h : History) (t : Tied s h) where
  -- a symbol of a feed that tells nothing loses nothing
  silent-keeps : (c : Call) → CallFits c → (told_by s c).events ≡ no_events → loses_by h c ≡ true → ⊥
  silent-keeps c f e l =
      none_lost (next_in h + 1) no_events no_losses (subst (Among (LostAt (next_in h + 1))) (sym (call_steps s h c t f).events ∙ e) (lost-told-by s h t c l))

-- it is an item's last call
loss_last : (s : System) (h : History) (x : Item) → Tied s h → ItemFits x → (cs : List Call) (c : Call) (ds : List Call) → calls_of s x ≡ cs ++ (c ∷ ds) →
    loses_by (happen_all h cs) c ≡ true → ds ≡ []
unfolding calls_of
loss_last s h (call k) t f cs c ds e l = none_left ds (one-call (ap length e ∙ length-append cs (c ∷ ds)))
  where
    one-call : 1 ≡ length cs + suc (length ds) → length ds ≡ 0
    one-call q = omega (arith, q)
loss_last s h (feed d) t f cs c ds e l =
    let w = cut d 0 (fed_by s d).used cs c ds e in
    let j = length cs in
    let g = fit_before cs c ds (subst CallsFit e (item_fits_feed s d f)) in
    let u = calls_tied s h cs t g.0 in
    by_test (eqb (length ds) 0)
    (λ z. none_left ds (eqb-true (length ds) 0 z))
    (λ z.
    let q = ((Fed.feeds s d).silent j (omega (arith, w.count, eqb-false (length ds) 0 z))).events in
    let from : 0 + j ≡ j = omega arith in
    let here : c ≡ call_at d j = w.here ∙ ap (call_at d) from in
    absurd
    (silent-keeps (after_calls s cs) (happen_all h cs) u c g.1
    (subst (λ (v : Call). (told_by (after_calls s cs) v).events ≡ no_events) (sym here)
    (subst (λ (v : List Call). (told_by (after_calls s v) (call_at d j)).events ≡ no_events) (sym w.before) q))
    l))

item_lost : (s : System) (h : History) (x : Item) (rest : List Item) → Tied s h → ItemFits x → (cs : List Call) (c : Call) (ds : List Call) → calls_of s x ≡ cs ++ (c ∷ ds) →
    loses_by (happen_all h cs) c ≡ true → ItemLost (happen_all h cs) s x c ds rest
item_lost s h x rest t f cs c ds e l =
    let k = loss_last s h x t f cs c ds e l in
    let g = fit_before cs c ds (subst CallsFit e (item_fits s x f)) in
    let u = calls_tied s h cs t g.0 in
    let v = lost-begins (after_calls s cs) (happen_all h cs) u c g.1 l in
    let a : after_item s x ≡ after_call (after_calls s cs) c = item_after s x ∙ ap (after_calls s) (e ∙ ap (λ (y : List Call). cs ++ (c ∷ y)) k) ∙ calls_append s cs (c ∷ []) ∙ one_more (after_calls s cs) c in
    record {
      last = k;
      like_new =
          λ store n.
          ap (λ (y : System). told_items y rest) (a ∙ v.2)
          ∙ items_same _ _ rest (begins-same (next_in (happen_all h cs) + 1) (kept_after (happen_all h cs) c) v.0 store v.1 n);
    }
  where
    one_more : (r : System) (c : Call) → after_calls r (c ∷ []) ≡ after_call r c
    one_more r c = unfold after_calls in refl

happen_append : (h : History) (a b : List Call) → happen_all h (a ++ b) ≡ happen_all (happen_all h a) b
unfolding happen_all
happen_append h [] b = refl
happen_append h (c ∷ a) b = happen_append (happens h c) a b

pub items : ItemsClaim
items at step store xs long fit =
    let s = begins at (new_kept step) store in
    let h = begins_with at (new_kept step) in
    record {
      after = items_after s xs;
      demand = demand_3 at step store (calls_of_all s xs) long (items_fit s xs fit);
      feeds = λ before d rest e. Fed.feeds (after_items s before) d;
      feeds-told =
          λ before d rest e.
          let f = items_before before (feed d) rest (subst ItemsFit e fit) in
          feed_told (after_items s before) (happen_all h (calls_of_all s before)) (tied-before before f.0) d f.1;
      losses =
          λ before x rest e cs c ds q l.
          let f = items_before before x rest (subst ItemsFit e fit) in
          let g = happen_append h (calls_of_all s before) cs in
          subst (λ (v : History). ItemLost v (after_items s before) x c ds rest) (sym g)
          (item_lost (after_items s before) (happen_all h (calls_of_all s before)) x rest (tied-before before f.0) f.1 cs c ds q
          (subst (λ (v : History). loses_by v c ≡ true) g l));
    }
  where
    tied-before : (before : List Item) → ItemsFit before →
        Tied (after_items (begins at (new_kept step) store) before) (happen_all (begins_with at (new_kept step)) (calls_of_all (begins at (new_kept step) store) before))
    tied-before before f =
        let s = begins at (new_kept step) store in
        let h = begins_with at (new_kept step) in
        subst (λ (v : System). Tied v (happen_all h (calls_of_all s before))) (sym (items_after s before)) (calls_tied s h (calls_of_all s before) (new_tied at step store long) (items_fit s before f))
