use Rattle.std.proofs.Common.{◌≡◌, ◌∙◌, ◌+◌, Some, None, Bool, List, ℕ, length, ap, sym, subst, arith}
use Rattle.std.specs.Prelude.{if◌then◌else◌}
use Rattle.seg_words.specs.Blocks.{IsTold}
use Rattle.seg_words.specs.Windows.{Aside}
use Rattle.value_image.specs.Image.{IsImageOf}
use Rattle.apcu_model.specs.Chunks.{item_of}
use Rattle.apcu_model.specs.Infos.{word_bytes}
use Rattle.entry_slots.specs.Entries.{listed}
use Rattle.entry_slots.specs.RowPlaces.{place_from}
use Rattle.entry_slots.specs.Standing.{entries}
use Rattle.row_search.proofs.ChosenRows.{left_out, by_key}
use Rattle.row_search.proofs.entry.item_at.Goals as goal

pub returns-then-leaves_out-clause-item : goal.returns-then-leaves_out-clause-item
returns-then-leaves_out-clause-item g c = λ row is.
    let said = c.head-head.ensures.head row is in
    let out = sym (c.leaves_out.ensures row said.ttl said.ctime) ∙ c.if-leaves_out.true in
    sym (ap (λ (b : Bool). if b then Some (item_of c.args.fields row) else None) (left_out c.args.test.now row out))

pub copy_key-requires-clause-long : goal.copy_key-requires-clause-long
copy_key-requires-clause-long g c = λ row is. (c.head-head.ensures.head row is).key_len

pub returns-then-not-matches-clause-item : goal.returns-then-not-matches-clause-item
returns-then-not-matches-clause-item g c = λ row is.
    let said = c.head-head.ensures.head row is in
    let read = c.in_ok-key.ensures.key row is in
    let stays = sym (c.leaves_out.ensures row said.ttl said.ctime) ∙ c.if-leaves_out.false in
    let chosen = by_key c.args.test.now row c.deref.result.now c.matches.result stays (c.deref.ensures.value ∙ read) c.matches.ensures.matches ∙ c.if-not-matches.true in
    sym (ap (λ (b : Bool). if b then Some (item_of c.args.fields row) else None) chosen)

pub read_value-requires-clause-image : goal.read_value-requires-clause-image
read_value-requires-clause-image g c =
    let r = place_from c.args.at (listed (entries c.args.slots.now)) c.requires.there in
    let said = c.head-head.ensures.head r.0 (record { there = r.1; place = r.2 }) in (
      r.0.graph,
      subst (λ (w : List ℕ). IsImageOf w c.head-head.result.image c.head-head.result.image_len r.0.graph) (sym (c.in_ok-key.ensures.kept.words ∙ c.head-head.ensures.kept.words)) said.image_stands,
    )

pub read_value-requires-clause-told : goal.read_value-requires-clause-told
read_value-requires-clause-told g c = λ i low high.
    let r = place_from c.args.at (listed (entries c.args.slots.now)) c.requires.there in
    let said = c.head-head.ensures.head r.0 (record { there = r.1; place = r.2 }) in
    subst (λ (a : Aside). IsTold a.windows i) (sym (c.in_ok-key.ensures.kept.aside ∙ c.head-head.ensures.kept.aside)) (said.image_told i low high)

pub item-requires : goal.item-requires
item-requires g c = record { short = c.in_ok-key.ensures.short }

pub returns-clause-item : goal.returns-clause-item
returns-clause-item g c = λ row is.
    let said = c.head-head.ensures.head row is in
    let read = c.in_ok-key.ensures.key row is in
    let stays = sym (c.leaves_out.ensures row said.ttl said.ctime) ∙ c.if-leaves_out.false in
    let chosen = by_key c.args.test.now row c.deref.result.now c.matches.result stays (c.deref.ensures.value ∙ read) c.matches.ensures.matches ∙ c.if-not-matches.false in
    let image = subst (λ (w : List ℕ). IsImageOf w c.head-head.result.image c.head-head.result.image_len row.graph) (sym (c.in_ok-key.ensures.kept.words ∙ c.head-head.ensures.kept.words)) said.image_stands in
    let value = c.in_ok-value.ensures.value row.graph image in
    let item : c.item.result ≡ item_of c.args.fields row =
    c.item.ensures ∙ (λ i. record {
      key = read i;
      value = value i;
      hits = said.hits i;
      mtime = said.mtime i;
      ctime = said.ctime i;
      dtime = said.dtime i;
      atime = said.atime i;
      size = word_bytes (said.size i);
      ttl = said.ttl i;
    }) in
    ap Some item ∙ sym (ap (λ (b : Bool). if b then Some (item_of c.args.fields row) else None) chosen)
