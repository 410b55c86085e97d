use Rattle.std.proofs.Common.{Bool, ◌≡◌, ℕ, ◌==◌, true, false, ◌∷◌, refl, ap, sym, ◌∙◌, subst, arith, rules}
use Rattle.seg_words.specs.Windows.{has, is_named}
use Rattle.pin_table.specs.declared.views.WriterState.{WriterState}
use Rattle.pin_table.specs.Views.{probed}
use Rattle.seg_words.specs.Windows.{Frees, held_by}
use Rattle.pin_table.proofs.WindowLists.{unnamed_closed}
use Rattle.pin_table.specs.Views.{aside_of, freed, met}
use Rattle.pin_table.proofs.writer.WriterSegment.probe.Goals as goal

-- what a probe leaves where the count is 0
frees : (d e : WriterState) (at n : ℕ) → e ≡ probed d at n → (n == 0) ≡ true → Rattle.std.specs.Prelude.MatchBool (n == 0) (has at (held_by d.mask d.windows) ≡ false) (is_named d.windows at ≡ true) → Frees (aside_of d) (aside_of e) at
frees d e at n same is told =
    let f : e ≡ freed d at = rw is at same in
    let m : has at (held_by d.mask d.windows) ≡ false = rw is at told in
    subst (λ (x : WriterState). Frees (aside_of d) (aside_of x) at) (sym f) (record { not_held = m; unnamed = unnamed_closed at d.windows; windows = refl; mask = refl; refused = refl })

pub returns-clause-free : goal.returns-clause-free
returns-clause-free c = λ is. frees c.args.self.now.seat.now.state c.probe.new.seat.state c.args.at c.probe.result c.probe.ensures.state is c.probe.ensures.met

pub returns-clause-held : goal.returns-clause-held
returns-clause-held c = search rules

-- the reading is kept either way
read : (d e : WriterState) (at n : ℕ) → e ≡ probed d at n → (b : Bool) → (n == 0) ≡ b → e.readings ≡ (at, n) ∷ d.readings
read d e at n same true is =
    let f : e ≡ freed d at = rw is at same in
    let z : n ≡ 0 = grind (arith, Rattle.std.proofs.lemmas.Bool.Decides.nat_tests) in
    ap (λ (x : WriterState). x.readings) f ∙ ap (λ k. (at, k) ∷ d.readings) (sym z)
read d e at n same false is = let f : e ≡ met d at n = rw is at same in ap (λ (x : WriterState). x.readings) f

pub returns-clause-reading : goal.returns-clause-reading
returns-clause-reading c = (c.probe.result, read c.args.self.now.seat.now.state c.probe.new.seat.state c.args.at c.probe.result c.probe.ensures.state (c.probe.result == 0) refl, refl)
