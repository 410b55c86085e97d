use Rattle.std.proofs.Common.{◌≡◌, true, false, sym, ap, ◌∙◌}
use Rattle.std.specs.Prelude.{is_some}
use Rattle.seg_words.specs.Probing.{goes_on}
use Rattle.entry_slots.specs.Entries.{Entries}
use Rattle.ttl_expunge.specs.ProbedRows.{Drops}
use Rattle.apcu_model.specs.Facts.{leaving_from}
use Rattle.ttl_expunge.proofs.OpenWindows.{sweeps_open, drops_open, open_on, sweeps_held, drops_held, nothing_swept}
use Rattle.ttl_expunge.proofs.RoomLemmas.{took, unchanged, drops_from, makes, room_swept, room_expired, room_full, expired_open, expired_rows_of, all_rows_of}
use Rattle.entry_slots.specs.Standing.{entries}
use Rattle.ttl_expunge.proofs.room.make_room_next.Goals as goal

pub drop_expired-requires-clause-whole : goal.drop_expired-requires-clause-whole
drop_expired-requires-clause-whole g c =
    let nothing : is_some c.take-swept.result ≡ false = sym c.is_some.ensures ∙ c.if-is_some.false in
    let first : entries c.take-swept.new.self ≡ entries c.args.slots.now = unchanged c.take-swept.result (entries c.args.slots.now) (entries c.take-swept.new.self) nothing c.take-swept.ensures.none in
    (ap (λ (x : Entries). x.unlinked) first ∙ c.requires.whole.0, ap (λ (x : Entries). x.taken) first ∙ c.requires.whole.1)

pub expunge_at_once-requires-clause-whole : goal.expunge_at_once-requires-clause-whole
expunge_at_once-requires-clause-whole g c =
    let s1 = entries c.args.slots.now in
    let s2 = entries c.drop_expired.new.slots in
    let nothing : is_some c.take-swept.result ≡ false = sym c.is_some.ensures ∙ c.if-is_some.false in
    let neither : is_some c.take-unexpired.result ≡ false = sym c.is_some-2.ensures ∙ c.if-is_some-2.false in
    let first : entries c.take-swept.new.self ≡ s1 = unchanged c.take-swept.result s1 (entries c.take-swept.new.self) nothing c.take-swept.ensures.none in
    let last : entries c.take-unexpired.new.self ≡ s2 = unchanged c.take-unexpired.result s2 (entries c.take-unexpired.new.self) neither c.take-unexpired.ensures.none in
    let drops = c.drop_expired.ensures.drops in (
      ap (λ (x : Entries). x.unlinked) last ∙ (ap (λ (x : Entries). x.unlinked) drops.dropped ∙ (ap (λ (x : Entries). x.unlinked) first ∙ c.requires.whole.0)),
      ap (λ (x : Entries). x.taken) last ∙ (ap (λ (x : Entries). x.taken) drops.dropped ∙ (ap (λ (x : Entries). x.taken) first ∙ c.requires.whole.1)),
    )

pub returns-then-is_some : goal.returns-then-is_some
returns-then-is_some g c =
    let s0 = entries c.args.slots.now in
    let s1 = entries c.args.slots.now in
    let a0 = g.S.WordsIn.aside c.args.seg.now in
    let a1 = g.S.WordsIn.aside c.args.seg.now in
    let r = c.take-swept.result in
    let e = c.take-swept.ensures in
    let sweeps = nothing_swept s0 a0 c.requires.held c.requires.ready.refused in
    record {
      made = makes r false (took r c.args.n s1 (entries c.take-swept.new.self) e.taken e.none) e.place
          (room_swept r sweeps e.place (sym c.is_some.ensures ∙ c.if-is_some.true)) (ap (λ (x : Entries). x.conf) sweeps.swept) sweeps.goes (sweeps_open s0 s1 a0 a1 sweeps) sweeps.refused (sweeps_held s0 s1 a0 a1 sweeps) e.beside.aside;
      stand = c.take-swept.ensures.stand;
      rest = c.take-swept.ensures.beside.rest;
    }

pub returns-then-is_some-2 : goal.returns-then-is_some-2
returns-then-is_some-2 g c =
    let s0 = entries c.args.slots.now in
    let s1 = entries c.args.slots.now in
    let s2 = entries c.drop_expired.new.slots in
    let a0 = g.S.WordsIn.aside c.args.seg.now in
    let a1 = g.S.WordsIn.aside c.args.seg.now in
    let a2 = g.S.WordsIn.aside c.drop_expired.new.seg in
    let r = c.take-swept.result in
    let r' = c.take-unexpired.result in
    let e = c.take-swept.ensures in
    let e' = c.take-unexpired.ensures in
    let nothing : is_some r ≡ false = sym c.is_some.ensures ∙ c.if-is_some.false in
    let sweeps = nothing_swept s0 a0 c.requires.held c.requires.ready.refused in
    let sound = c.standing_laws.ensures.sound c.args.slots.now (g.S.WordsIn.words c.args.seg.now) a1 (entries c.args.slots.now) c.requires.ready.stand in
    let drops : Drops s1 s2 a1 a2 c.args.t (expired_rows_of c.args.t s1) =
    drops_from (expired_rows_of c.args.t) (unchanged r s1 (entries c.take-swept.new.self) nothing e.none) e.beside.aside c.drop_expired.ensures.drops in
    record {
      made = makes r' false (took r' c.args.n s2 (entries c.take-unexpired.new.self) e'.taken e'.none) e'.place
          (room_expired r r' sweeps e.place nothing drops e'.place (sym c.is_some-2.ensures ∙ c.if-is_some-2.true))
          (ap (λ (x : Entries). x.conf) drops.dropped ∙ ap (λ (x : Entries). x.conf) sweeps.swept)
          (goes_on a0 a1 a2 sweeps.goes drops.goes)
          (open_on s0 s1 s2 a1 a2 drops.goes (sweeps_open s0 s1 a0 a1 sweeps) (expired_open s1 s2 a1 a2 c.args.t sound drops)) drops.refused (drops_held s1 s2 a1 a2 c.args.t (expired_rows_of c.args.t s1) drops (sweeps_held s0 s1 a0 a1 sweeps)) e'.beside.aside;
      stand = c.take-unexpired.ensures.stand;
      rest = c.take-unexpired.ensures.beside.rest ∙ (c.drop_expired.ensures.rest ∙ c.take-swept.ensures.beside.rest);
    }

pub returns : goal.returns
returns g c =
    let s0 = entries c.args.slots.now in
    let s1 = entries c.args.slots.now in
    let s2 = entries c.drop_expired.new.slots in
    let s3 = entries c.expunge_at_once.new.slots in
    let a0 = g.S.WordsIn.aside c.args.seg.now in
    let a1 = g.S.WordsIn.aside c.args.seg.now in
    let a2 = g.S.WordsIn.aside c.drop_expired.new.seg in
    let a3 = g.S.WordsIn.aside c.expunge_at_once.new.seg in
    let r = c.take-swept.result in
    let r' = c.take-unexpired.result in
    let e = c.take-swept.ensures in
    let e' = c.take-unexpired.ensures in
    let f = c.take.ensures in
    let nothing : is_some r ≡ false = sym c.is_some.ensures ∙ c.if-is_some.false in
    let neither : is_some r' ≡ false = sym c.is_some-2.ensures ∙ c.if-is_some-2.false in
    let sweeps = nothing_swept s0 a0 c.requires.held c.requires.ready.refused in
    let sound = c.standing_laws.ensures.sound c.args.slots.now (g.S.WordsIn.words c.args.seg.now) a1 (entries c.args.slots.now) c.requires.ready.stand in
    let sound' = c.standing_laws.ensures.sound c.drop_expired.new.slots (g.S.WordsIn.words c.drop_expired.new.seg) a2 (entries c.drop_expired.new.slots) c.drop_expired.ensures.stand in
    let drops : Drops s1 s2 a1 a2 c.args.t (expired_rows_of c.args.t s1) =
    drops_from (expired_rows_of c.args.t) (unchanged r s1 (entries c.take-swept.new.self) nothing e.none) e.beside.aside c.drop_expired.ensures.drops in
    let all : Drops s2 s3 a2 a3 c.args.t (all_rows_of s2) =
    drops_from all_rows_of (unchanged r' s2 (entries c.take-unexpired.new.self) neither e'.none) e'.beside.aside c.expunge_at_once.ensures.drops in
    let keeps = open_on s0 s1 s2 a1 a2 drops.goes (sweeps_open s0 s1 a0 a1 sweeps) (expired_open s1 s2 a1 a2 c.args.t sound drops) in
    record {
      made = makes c.take.result true (took c.take.result c.args.n s3 (entries c.take.new.self) f.taken f.none) f.place
          (room_full r r' sweeps e.place nothing drops e'.place neither all)
          (ap (λ (x : Entries). x.conf) all.dropped ∙ (ap (λ (x : Entries). x.conf) drops.dropped ∙ ap (λ (x : Entries). x.conf) sweeps.swept))
          (goes_on a0 a2 a3 (goes_on a0 a1 a2 sweeps.goes drops.goes) all.goes)
          (open_on s0 s2 s3 a2 a3 all.goes keeps (drops_open s2 s3 a2 a3 c.args.t (all_rows_of s2) sound' (leaving_from s2.conf s2.rows) all)) all.refused
          (drops_held s2 s3 a2 a3 c.args.t (all_rows_of s2) all (drops_held s1 s2 a1 a2 c.args.t (expired_rows_of c.args.t s1) drops (sweeps_held s0 s1 a0 a1 sweeps))) f.beside.aside;
      stand = c.take.ensures.stand;
      rest = c.take.ensures.beside.rest ∙ (c.expunge_at_once.ensures.rest ∙ (c.take-unexpired.ensures.beside.rest ∙ (c.drop_expired.ensures.rest ∙ c.take-swept.ensures.beside.rest)));
    }
