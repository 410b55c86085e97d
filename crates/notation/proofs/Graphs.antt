-- What is read of bytes is a graph: its items are drafted one after the other.
use Rattle.std.proofs.Common.{◌≡◌, ℕ, zero, suc, ◌<◌, Bool, true, false, cond, ◌&&◌, List, [], ◌∷◌, ◌++◌, length, drop, Option, Some, None, Result, Ok, refl, sym, ap, subst, ◌∙◌, append_assoc, arith}
use Rattle.std.specs.Option.{is_none}
use Rattle.std.specs.List.{AllByRecursion}
use Rattle.php_graph.specs.declared.key.Key.{Key}
use Rattle.php_graph.specs.declared.kind.Kind.{Kind}
use Rattle.php_graph.specs.declared.item.Item.{Item}
use Rattle.php_graph.specs.declared.item.Item.TheVariants as items
use Rattle.php_graph.specs.declared.item.Wants.{Wants}
use Rattle.php_graph.specs.declared.item.Wants.TheVariants as wants
use Rattle.php_graph.specs.declared.item.BuildFault.{BuildFault}
use Rattle.php_graph.specs.Graph.{levels, is_array_at, IsGraph}
use Rattle.php_graph.specs.Building.{Draft, nothing_drafted, wants_of, wants_at_top, wants_by, is_name, item_fits, FitsItem, fault_of, pushed, drafted}
use Rattle.notation.specs.declared.fault.Fault.{Fault}
use Rattle.notation.specs.declared.fault.Reason.TheVariants.{Depth}
use Rattle.notation.specs.Marks.{◌>>=◌, fail, mark_at}
use Rattle.notation.specs.Reading.{begun_at, takes_integers, key_at, members_at, closed_at, rest_of_value, value_with, value_at, reading_of}
use Rattle.notation.proofs.PartTexts.{Written, AreSomeBytes, bytes_behind, bind_ok, ok_is, mark_takes}
use Rattle.notation.proofs.ItemSteps.{value_step}
use Rattle.notation.proofs.ItemTexts.{item_text, Counted, begun_takes}
use Rattle.notation.proofs.MemberTexts.{After, key_takes}
use Rattle.notation.specs.Notation.{key_text}

-- items lead from the draft to the other, whatever is pushed after them
pub record IsPath (d e : Draft) : Type 0 where
  pub items : List Item
  pub fit : AllByRecursion FitsItem items
  pub leads : (more : List Item) → drafted d (items ++ more) ≡ drafted e more

no_step : (d : Draft) → IsPath d d
no_step d = record { items = []; fit = tt; leads = λ more. refl }

one_step : (d : Draft) (item : Item) → item_fits (wants_of d) item ≡ true → fault_of d item ≡ None → FitsItem item → IsPath d (pushed d item)
one_step d item wanted sound fits = record {
  items = item ∷ [];
  fit = (fits, tt);
  leads = λ more.
      ap (λ (b : Bool). cond (b && is_none (fault_of d item)) (drafted (pushed d item) more) None) wanted
      ∙ ap (λ (o : Option BuildFault). cond (is_none o) (drafted (pushed d item) more) None) sound;
}

both_fit : (a b : List Item) → AllByRecursion FitsItem a → AllByRecursion FitsItem b → AllByRecursion FitsItem (a ++ b)
both_fit [] b h k = k
both_fit (x ∷ a) b h k = (h.0, both_fit a b h.1 k)

then_path : (d e f : Draft) → IsPath d e → IsPath e f → IsPath d f
then_path d e f a b = record {
  items = a.items ++ b.items;
  fit = both_fit a.items b.items a.fit b.fit;
  leads = λ more. ap (drafted d) (append_assoc a.items b.items more) ∙ a.leads (b.items ++ more) ∙ b.leads more;
}

-- what was read was drafted, and the same containers are open
pub record IsDraftedOn (d e : Draft) (rest : List ℕ) : Type 0 where
  pub path : IsPath d e
  pub containers : e.containers ≡ d.containers
  pub no_key : e.key ≡ None
  pub some : 0 < length e.places
  pub left : AreSomeBytes rest

abbrev pub Drafts : (Draft → List ℕ → Result After Fault) → Type 0
Drafts value = (d : Draft) (bytes : List ℕ) (y : After) → wants_of d ≡ wants.Value → AreSomeBytes bytes → value d bytes ≡ Ok y → IsDraftedOn d y.0 y.1

-- ---- inside a container

wants_in : (d : Draft) (p : ℕ) (outer : List ℕ) → d.containers ≡ p ∷ outer → d.key ≡ None → wants_of d ≡ cond (is_array_at d.places p) wants.ArrayKey wants.Name
wants_in d p outer containers key =
    ap (λ (cs : List ℕ). wants_by d.places cs d.key) containers ∙ ap (λ (k : Option Key). wants_by d.places (p ∷ outer) k) key

key_by : (b : Bool) (key : Key) → (takes_integers (cond b wants.ArrayKey wants.Name) ≡ false → is_name key ≡ true) → item_fits (cond b wants.ArrayKey wants.Name) (items.Key key) ≡ true
key_by true key named = refl
key_by false key named = named refl

close_by : (b : Bool) → item_fits (cond b wants.ArrayKey wants.Name) items.Close ≡ true
close_by true = refl
close_by false = refl

members_draft : (law : Written) (value : Draft → List ℕ → Result After Fault) → Drafts value → (n : ℕ) (d : Draft) (p : ℕ) (outer : List ℕ) → d.containers ≡ p ∷ outer → d.key ≡ None → 0 < length d.places
    → (bytes : List ℕ) (y : After) → AreSomeBytes bytes → members_at value n d bytes ≡ Ok y → IsDraftedOn d y.0 y.1
members_draft law value drafts zero d p outer containers key some bytes y fits e =
    subst (λ (z : After). IsDraftedOn d z.0 z.1) (ok_is (d, bytes) y e) (record { path = no_step d; containers = refl; no_key = key; some = some; left = fits })
members_draft law value drafts (suc n) d p outer containers key some bytes y fits e =
    let a = bind_ok (key_at d bytes) (λ k. value k.0 k.1 >>= λ v. members_at value n v.0 v.1) y e in
    let v = bind_ok (value a.0.0 a.0.1) (λ v. members_at value n v.0 v.1) y a.2 in
    let k = key_takes law d bytes a.0 a.1 in
    let d1 = pushed d (items.Key k.key) in
    let read : value d1 a.0.1 ≡ Ok v.0 = ap (λ (x : Draft). value x a.0.1) (sym k.put) ∙ v.1 in
    let wants_is = wants_in d p outer containers key in
    let wanted : item_fits (wants_of d) (items.Key k.key) ≡ true =
    ap (λ (w : Wants). item_fits w (items.Key k.key)) wants_is ∙ key_by (is_array_at d.places p) k.key (λ f. k.named (ap takes_integers wants_is ∙ f)) in
    let keyed = one_step d (items.Key k.key) wanted k.sound (k.fits fits) in
    let due : wants_of d1 ≡ wants.Value = ap (λ (cs : List ℕ). wants_by d.places cs (Some k.key)) containers in
    let after = bytes_behind (key_text k.key) a.0.1 (subst AreSomeBytes k.text fits) in
    let held = drafts d1 a.0.1 v.0 due after read in
    let more = members_draft law value drafts n v.0.0 p outer (held.containers ∙ containers) held.no_key held.some v.0.1 y held.left v.2 in
    record {
      path = then_path d d1 y.0 keyed (then_path d1 v.0.0 y.0 held.path more.path);
      containers = more.containers ∙ held.containers;
      no_key = more.no_key;
      some = more.some;
      left = more.left;
    }

closed_draft : (d : Draft) (p : ℕ) (outer : List ℕ) → d.containers ≡ p ∷ outer → d.key ≡ None → IsPath d (pushed d items.Close)
closed_draft d p outer containers key =
    one_step d items.Close (ap (λ (w : Wants). item_fits w items.Close) (wants_in d p outer containers key) ∙ close_by (is_array_at d.places p)) refl tt

container_draft : (law : Written) (value : Draft → List ℕ → Result After Fault) → Drafts value → (d opened : Draft) (p n : ℕ) (inner : List ℕ) (y : After) → IsPath d opened → opened.containers ≡ p ∷ d.containers → opened.key ≡ None → 0 < length opened.places
    → AreSomeBytes inner → (members_at value n opened inner >>= λ m. closed_at m.0 m.1) ≡ Ok y → IsDraftedOn d y.0 y.1
unfolding closed_at
container_draft law value drafts d opened p n inner y path containers key some fits e =
    let b = bind_ok (members_at value n opened inner) (λ m. closed_at m.0 m.1) y e in
    let m = members_draft law value drafts n opened p d.containers containers key some inner b.0 fits b.1 in
    let c = bind_ok (mark_at 125 b.0.1) (λ rest. Ok (pushed b.0.0 items.Close, rest)) y b.2 in
    let inside : b.0.0.containers ≡ p ∷ d.containers = m.containers ∙ containers in
    let last = subst AreSomeBytes (mark_takes 125 b.0.1 c.0 c.1) m.left in
    subst (λ (z : After). IsDraftedOn d z.0 z.1) (ok_is (pushed b.0.0 items.Close, c.0) y c.2)
    (record {
      path = then_path d opened (pushed b.0.0 items.Close) path (then_path opened b.0.0 (pushed b.0.0 items.Close) m.path (closed_draft b.0.0 p d.containers inside m.no_key));
      containers = ap (λ (cs : List ℕ). drop 1 cs) inside;
      no_key = refl;
      some = m.some;
      left = last.1;
    })

-- ---- values

plain_draft : (d e : Draft) (rest : List ℕ) (y : After) → IsPath d e → e.containers ≡ d.containers → e.key ≡ None → 0 < length e.places → AreSomeBytes rest → (e, rest) ≡ y → IsDraftedOn d y.0 y.1
plain_draft d e rest y path containers key some left is = subst (λ (z : After). IsDraftedOn d z.0 z.1) is (record { path = path; containers = containers; no_key = key; some = some; left = left })

by_item : (law : Written) (value : Draft → List ℕ → Result After Fault) → Drafts value → (d : Draft) (item : Item) (count : Option ℕ) (inner : List ℕ) (y : After) → Counted item count → wants_of d ≡ wants.Value → fault_of d item ≡ None → FitsItem item
    → AreSomeBytes inner → rest_of_value value (pushed d item, count, inner) ≡ Ok y → IsDraftedOn d y.0 y.1
by_item law value drafts d items.Null None inner y c wanted sound fits left e =
    let s = value_step d items.Null sound refl in
    plain_draft d (pushed d items.Null) inner y (one_step d items.Null (ap (λ (w : Wants). item_fits w items.Null) wanted) sound fits) refl refl s.some left (ok_is (pushed d items.Null, inner) y e)
by_item law value drafts d (items.Bool b) None inner y c wanted sound fits left e =
    let s = value_step d (items.Bool b) sound refl in
    plain_draft d (pushed d (items.Bool b)) inner y (one_step d (items.Bool b) (ap (λ (w : Wants). item_fits w (items.Bool b)) wanted) sound fits) refl refl s.some left (ok_is (pushed d (items.Bool b), inner) y e)
by_item law value drafts d (items.Int n) None inner y c wanted sound fits left e =
    let s = value_step d (items.Int n) sound refl in
    plain_draft d (pushed d (items.Int n)) inner y (one_step d (items.Int n) (ap (λ (w : Wants). item_fits w (items.Int n)) wanted) sound fits) refl refl s.some left (ok_is (pushed d (items.Int n), inner) y e)
by_item law value drafts d (items.Str b) None inner y c wanted sound fits left e =
    let s = value_step d (items.Str b) sound refl in
    plain_draft d (pushed d (items.Str b)) inner y (one_step d (items.Str b) (ap (λ (w : Wants). item_fits w (items.Str b)) wanted) sound fits) refl refl s.some left (ok_is (pushed d (items.Str b), inner) y e)
by_item law value drafts d (items.Same x) None inner y c wanted sound fits left e =
    let s = value_step d (items.Same x) sound refl in
    plain_draft d (pushed d (items.Same x)) inner y (one_step d (items.Same x) (ap (λ (w : Wants). item_fits w (items.Same x)) wanted) sound fits) refl refl s.some left (ok_is (pushed d (items.Same x), inner) y e)
by_item law value drafts d (items.Back x) None inner y c wanted sound fits left e =
    let s = value_step d (items.Back x) sound refl in
    plain_draft d (pushed d (items.Back x)) inner y (one_step d (items.Back x) (ap (λ (w : Wants). item_fits w (items.Back x)) wanted) sound fits) refl refl s.some left (ok_is (pushed d (items.Back x), inner) y e)
by_item law value drafts d items.OpenArray (Some n) inner y c wanted sound fits left e =
    let s = value_step d items.OpenArray sound refl in
    container_draft law value drafts d (pushed d items.OpenArray) _ n inner y (one_step d items.OpenArray (ap (λ (w : Wants). item_fits w items.OpenArray) wanted) sound fits) refl refl s.some left e
by_item law value drafts d (items.OpenObject class) (Some n) inner y c wanted sound fits left e =
    let s = value_step d (items.OpenObject class) sound refl in
    container_draft law value drafts d (pushed d (items.OpenObject class)) _ n inner y (one_step d (items.OpenObject class) (ap (λ (w : Wants). item_fits w (items.OpenObject class)) wanted) sound fits) refl refl s.some left e
by_item law value drafts d items.OpenArray None inner y c wanted sound fits left e = absurd c
by_item law value drafts d (items.OpenObject class) None inner y c wanted sound fits left e = absurd c
by_item law value drafts d (items.Key key) count inner y c wanted sound fits left e = absurd c
by_item law value drafts d items.Close count inner y c wanted sound fits left e = absurd c
by_item law value drafts d items.Null (Some n) inner y c wanted sound fits left e = absurd c
by_item law value drafts d (items.Bool b) (Some n) inner y c wanted sound fits left e = absurd c
by_item law value drafts d (items.Int i) (Some n) inner y c wanted sound fits left e = absurd c
by_item law value drafts d (items.Str b) (Some n) inner y c wanted sound fits left e = absurd c
by_item law value drafts d (items.Same x) (Some n) inner y c wanted sound fits left e = absurd c
by_item law value drafts d (items.Back x) (Some n) inner y c wanted sound fits left e = absurd c

with_drafts : (law : Written) (value : Draft → List ℕ → Result After Fault) → Drafts value → Drafts (value_with value)
with_drafts law value drafts d bytes y wanted fits e =
    let b = bind_ok (begun_at d bytes) (rest_of_value value) y e in
    let s = begun_takes law d bytes b.0 b.1 in
    let rest : rest_of_value value (pushed d s.item, b.0.1, b.0.2) ≡ Ok y = ap (λ (x : Draft). rest_of_value value (x, b.0.1, b.0.2)) (sym s.put) ∙ b.2 in
    let left = bytes_behind (item_text s.item b.0.1) b.0.2 (subst AreSomeBytes s.text fits) in
    by_item law value drafts d s.item b.0.1 b.0.2 y s.counted wanted s.sound (s.fits fits) left rest

none_deeper : Drafts (λ d bytes. fail Depth bytes)
none_deeper d bytes y wanted fits e = absurd cc

value_drafts : (law : Written) (level : ℕ) → Drafts (value_at level)
unfolding value_at
value_drafts law zero = with_drafts law (λ d bytes. fail Depth bytes) none_deeper
value_drafts law (suc level) = with_drafts law (value_at level) (value_drafts law level)

-- ---- at the top

some_done : (g : List Kind) → 0 < length g → wants_at_top g ≡ wants.Done
some_done [] some = absurd (omega (arith, some))
some_done (kind ∷ ks) some = refl

done_of : (d : Draft) → d.containers ≡ [] → d.key ≡ None → 0 < length d.places → wants_of d ≡ wants.Done
done_of d containers key some = ap (λ (cs : List ℕ). wants_by d.places cs d.key) containers ∙ some_done d.places some

-- items that fit, and after which nothing is wanted, have written a graph
abbrev pub ItemsWriteGraphs : Type 0
ItemsWriteGraphs = (is : List Item) (d : Draft) → AllByRecursion FitsItem is → drafted nothing_drafted is ≡ Some d → wants_of d ≡ wants.Done → IsGraph d.places

pub reading_is_graph : (law : Written) → ItemsWriteGraphs → (bytes : List ℕ) (g : List Kind) (rest : List ℕ) → AreSomeBytes bytes → reading_of bytes ≡ Ok (g, rest) → IsGraph g
unfolding reading_of
reading_is_graph law writes bytes g rest fits e =
    let b = bind_ok (value_at levels nothing_drafted bytes) (λ p. Ok (p.0.places, p.1)) (g, rest) e in
    let v = value_drafts law levels nothing_drafted bytes b.0 refl fits b.1 in
    let s = ok_is (b.0.0.places, b.0.1) (g, rest) b.2 in
    let whole : drafted nothing_drafted (v.path.items ++ []) ≡ Some b.0.0 = v.path.leads [] in
    let graph : IsGraph b.0.0.places =
    writes (v.path.items ++ []) b.0.0 (both_fit v.path.items [] v.path.fit tt) whole (done_of b.0.0 v.containers v.no_key v.some) in
    subst (λ (p : List Kind × List ℕ). IsGraph p.0) s graph
