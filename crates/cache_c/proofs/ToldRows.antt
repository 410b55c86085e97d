-- The numbers of a row tell it.
use Rattle.std.proofs.Common.{◌≡◌, ◌≢◌, ℕ, ◌+◌, ◌<◌, List, [], ◌∷◌, Some, refl, sym, subst, arith}
use Rattle.php_graph.specs.declared.kind.Kind.{Kind}
use Rattle.php_graph.specs.declared.kind.Kind.TheVariants as kinds
use Rattle.seg_words.specs.Windows.{Aside}
use Rattle.value_image.specs.Laws.{BytesArePacked}
use Rattle.value_image.specs.Texts.{IsToldImage}
use Rattle.apcu_model.specs.Cache.{Row}
use Rattle.entry_slots.specs.declared.head.Head.{Head}
use Rattle.entry_slots.specs.declared.slots.EntrySlots.{EntrySlots}
use Rattle.entry_slots.specs.Entries.{IsListed}
use Rattle.entry_slots.specs.Standing.{Stands, entries}
use Rattle.entry_slots.specs.Reading.{IsHeadOf}
use Rattle.entry_slots.proofs.KeyCopies.{key_at}
use Rattle.entry_slots.proofs.RowBlocks.{home_listed}
use Rattle.cache_core.specs.declared.scalar.Scalar.{Scalar}
use Rattle.cache_core.specs.declared.scalar.Scalar.TheVariants as scalars
use Rattle.cache_core.specs.Looking.{scalar_of, HasImage}
use Rattle.php_graph.specs.Size.{image_length}
use Rattle.value_image.specs.Image.{IsImageOf}
use Rattle.cache_c.specs.declared.asking.Answer.{Answer}
use Rattle.cache_c.specs.declared.rows.ToldRow.{ToldRow}
use Rattle.cache_c.specs.Asked.{IsValueBy, IsScalarBy}
use Rattle.cache_c.specs.Standing.{StandAt}
use Rattle.cache_c.specs.Told.{IsRowBy}

-- a scalar of a value tells the value
pub scalar_told : (words : List ℕ) (g : List Kind) (v : Scalar) (a : Answer) → Some v ≡ scalar_of g → IsScalarBy v a → IsValueBy words g a
scalar_told words [] v a e s = absurd (cc e)
scalar_told words (kinds.Null ∷ ks) v a e s = let same : v ≡ scalars.Null = cc e in subst (λ (x : Scalar). IsScalarBy x a) same s
scalar_told words (kinds.Bool b ∷ ks) v a e s = let same : v ≡ scalars.Bool b = cc e in subst (λ (x : Scalar). IsScalarBy x a) same s
scalar_told words (kinds.Int n ∷ ks) v a e s = let same : v ≡ scalars.Int n = cc e in subst (λ (x : Scalar). IsScalarBy x a) same s
scalar_told words (kinds.Str bytes ∷ ks) v a e s = absurd (cc e)
scalar_told words (kinds.Array ms ∷ ks) v a e s = absurd (cc e)
scalar_told words (kinds.Object class ps ∷ ks) v a e s = absurd (cc e)
scalar_told words (kinds.Same x ∷ ks) v a e s = absurd (cc e)

-- the image of a value can be read
pub has_image : {words windows : List ℕ} {at : ℕ} {g : List Kind} → IsToldImage words windows at g → HasImage words windows at
has_image {words} {windows} {at} {g} t = record { graph = g; len = image_length g; stands = t.image; told = t.told }

-- so can that of the row of a head
pub head_image : {words windows : List ℕ} {head : Head} {row : Row} → IsHeadOf words windows head row → IsToldImage words windows head.image row.graph
head_image {words} {windows} {head} {row} h = record {
  image = subst (λ (n : ℕ). IsImageOf words head.image n row.graph) h.image_len h.image_stands;
  told = λ i low high. h.image_told i low (subst (λ (n : ℕ). i < head.image + n) (sym h.image_len) high);
}

-- the numbers of a row by its head and its value
abbrev pub told_by : ℕ → ℕ → Head → Answer → ToldRow
told_by slot at head value = record {
  place = at;
  slot = slot;
  key_place = at + 12;
  key_len = head.key_len;
  ttl = head.ttl;
  size = head.size;
  ctime = head.ctime;
  mtime = head.mtime;
  atime = head.atime;
  dtime = head.dtime;
  hits = head.hits;
  value = value;
}

pub row_told : BytesArePacked → {e : EntrySlots} {old new : List ℕ} {aside : Aside} (slot at : ℕ) (head : Head) (row : Row) (value : Answer)
    → Stands e old aside (entries e) → IsListed (entries e) at row → at ≢ 0 → IsHeadOf old aside.windows head row → new ≡ old → IsValueBy new row.graph value
    → IsRowBy new slot row (told_by slot at head value)
row_told packed {e} {old} {new} {aside} slot at head row value stand is some h same v =
    let k = key_at packed row (home_listed row stand is.there) at is.place in
    let key : StandAt old (at + 12) row.key = record { inside = omega (arith, k.inside); there = k.back } in
    record {
      place = sym is.place;
      some = some;
      slot = refl;
      key_len = h.key_len;
      key = subst (λ (ws : List ℕ). StandAt ws (at + 12) row.key) (sym same) key;
      noted = λ i. record {
        ttl = h.ttl i;
        ctime = h.ctime i;
        mtime = h.mtime i;
        atime = h.atime i;
        dtime = h.dtime i;
        hits = h.hits i;
        size = h.size i;
      };
      value = v;
    }
