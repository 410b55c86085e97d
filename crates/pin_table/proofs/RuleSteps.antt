-- Each kind of step keeps the rule, all seven parts of it.
use Rattle.std.proofs.Common.{◌≡◌, ℕ, ◌+◌, ◌-◌, ◌%◌, ◌<◌, ◌≤◌, true, false, [], length, Some, None}
use Rattle.seg_words.specs.declared.layout.TheConstants.{PIN_COUNT}
use mathlib.Core.Option.{some, none}
use lib.ListN.{get_elem?}
use Rattle.atomic_table.specs.Table.{State, step, Allows, Splits, Joins, opening}
use Rattle.seg_words.specs.Windows.{has}
use Rattle.seg_words.specs.Blocks.{MayProbe}
use Rattle.apcu_model.specs.declared.request.Event.{Event}
use Rattle.pin_table.specs.declared.views.Known.{Known}
use Rattle.pin_table.specs.declared.views.Reader.{Reader}
use Rattle.pin_table.specs.declared.views.WriterState.{WriterState}
use Rattle.pin_table.specs.declared.views.Start.{Start}
use Rattle.pin_table.specs.declared.views.View.{View}
use Rattle.pin_table.specs.declared.views.View.TheVariants.{Writer, Idle, Copying, Spent}
use Rattle.pin_table.specs.Events.{is_fetch}
use Rattle.pin_table.specs.Pins.{IsBlock, AreApart, refused_in}
use Rattle.pin_table.specs.Views.{in_hand, has_worker, newcomer, with_newcomer, with_log, with_hand, with_event, known_after, seen_all, rested, copied, reader_after, on_state, from_log, takes_in, closes, first_view}
use Rattle.pin_table.specs.Rule.{IsRuled}
use Rattle.pin_table.specs.Plays.{Looks, ReadsTold, Writes, Probes, Pins, Copies, Releases}
use Rattle.pin_table.proofs.WriterStates.{Outside}
use Rattle.pin_table.proofs.RuleParts.{rule_of}
use Rattle.pin_table.proofs.WriterSteps as steps
use Rattle.pin_table.proofs.PinCountSteps as more
use Rattle.pin_table.proofs.HandSteps as cuts
use Rattle.pin_table.proofs.PassSteps as first

-- the first seat is made
pub opens : (s : Start) → length s.budgets.items ≤ 64 → IsRuled {S = ℕ} (opening s.words.items [] (first_view s))
opens s few = rule_of _ _ (first.opens s few)

-- a new worker is made
pub makes : (d : WriterState) → d.log.made < length d.log.budgets → Splits {S = ℕ} {V = View} IsRuled 0 (Writer d) (on_state (λ d. with_log d (with_newcomer d.log)) (Writer d)) (from_log newcomer (Writer d))
makes d room s rule at = rule_of _ _ (first.makes d room s rule.carried at)

-- a pass comes into the hand
pub takes : (d : WriterState) (other : ℕ) (p : Known) → d.log.hand ≡ None → Joins {S = ℕ} {V = View} IsRuled 0 (Writer d) other (Idle p) (takes_in (Writer d) (Idle p)) Spent
takes d other p nobody s rule at away there = rule_of _ _ (cuts.takes d other p nobody s rule.carried at away there)

-- the worker in the hand makes its event
pub gives : (d : WriterState) (e : Event) (p : Known) → d.log.hand ≡ Some p → e.worker ≡ p.worker → 0 < p.left → Splits {S = ℕ} {V = View} IsRuled 0 (Writer d) (on_state (λ d. rested d (with_event d.log e)) (Writer d)) (from_log (λ b. known_after b e) (Writer d))
gives d e p inhand same some_left s rule at = rule_of _ _ (first.gives d e p inhand same some_left s rule.carried at)

-- the pass goes back as it was
pub goes_back : (d : WriterState) (p : Known) → d.log.hand ≡ Some p → Splits {S = ℕ} {V = View} IsRuled 0 (Writer d) (on_state (λ d. rested d (with_hand d.log None)) (Writer d)) (from_log (λ b. in_hand b.hand) (Writer d))
goes_back d p inhand s rule at = rule_of _ _ (first.goes_back d p inhand s rule.carried at)

-- the pass goes back, and has seen all
pub goes_seen : (d : WriterState) (p : Known) → d.log.hand ≡ Some p → Splits {S = ℕ} {V = View} IsRuled 0 (Writer d) (on_state (λ d. rested d (with_hand d.log None)) (Writer d)) (from_log seen_all (Writer d))
goes_seen d p inhand s rule at = rule_of _ _ (first.goes_seen d p inhand s rule.carried at)

-- the writer looks at its own state
pub looks : (slots : ℕ) (d : WriterState) (i : ℕ) → Allows {S = ℕ} {V = View} IsRuled slots 0 (Writer d, []) i (λ n. n) (Looks (step slots i 0 0 none) (Writer d, []))
looks slots d i s rule count at fits = let r = steps.looks slots d i s rule.carried count at fits in (r.0, r.1, r.2, rule_of _ _ r.3, r.4)

-- the writer loads a word
pub reads : (slots : ℕ) (d : WriterState) (i : ℕ) → Allows {S = ℕ} {V = View} IsRuled slots 0 (Writer d, []) i (λ n. n) (ReadsTold (step slots i 0 0 none) (Writer d, []))
reads slots d i s rule count at fits = let r = steps.reads slots d i s rule.carried count at fits in (r.0, r.1, r.2, rule_of _ _ r.3, r.4)

-- the writer stores a word on which no worker that copies relies
pub writes : (slots : ℕ) (d : WriterState) (i x : ℕ) → i < length d.words → Outside d i → Allows {S = ℕ} {V = View} IsRuled slots 0 (Writer d, []) i (λ _. x) (λ _. Writes (step slots i x 0 none) (Writer d, []) x)
writes slots d i x less out s rule count at fits = let r = steps.writes slots d i x less out s rule.carried count at fits in (r.0, r.1, r.2, rule_of _ _ r.3, r.4)

-- a pass is taken in at the end
pub closed_in : (d : WriterState) (other : ℕ) (p : Known) → d.log.hand ≡ None → Joins {S = ℕ} {V = View} IsRuled 0 (Writer d) other (Idle p) (closes (Writer d) (Idle p)) Spent
closed_in d other p nobody s rule at away there = rule_of _ _ (first.closed_in d other p nobody s rule.carried at away there)

-- the writer loads a pin count
pub probes : (slots : ℕ) (d : WriterState) (x : ℕ) → MayProbe d.words d.windows x → has x (refused_in d.readings) ≡ false → d.pinning ≡ 0 → Allows {S = ℕ} {V = View} IsRuled slots 0 (Writer d, []) (x + PIN_COUNT) (λ n. n) (Probes (step slots (x + PIN_COUNT) 0 0 none) (Writer d, []))
probes slots d x may unrefused nothing s rule count at fits = let r = steps.probes slots d x may unrefused nothing s rule.carried count at fits in (r.0, r.1, r.2, rule_of _ _ r.3, r.4)

-- the writer adds one to the pin count of a block
pub pins : (slots : ℕ) (d : WriterState) (x : ℕ) → d.pinning ≡ 0 → x + PIN_COUNT < length d.words → IsBlock d.words x → ((j b : ℕ) → get_elem? d.windows j ≡ some b → 0 < b → AreApart d.words x b)
    → Allows {S = ℕ} {V = View} IsRuled slots 0 (Writer d, []) (x + PIN_COUNT) (λ n. (n + 1) % 18446744073709551616) (Pins (step slots (x + PIN_COUNT) 1 0 none) (Writer d, []))
pins slots d x nothing less stands apart s rule count at fits = let r = more.pins slots d x nothing less stands apart s rule.carried count at fits in (r.0, r.1, r.2, rule_of _ _ r.3, r.4)

-- the worker in the hand makes its event, and copies the pinned block
pub copies_out : (d : WriterState) (e : Event) (p : Known) → d.log.hand ≡ Some p → e.worker ≡ p.worker → is_fetch e.request ≡ true → 0 < p.left → 0 < d.pinning
    → Splits {S = ℕ} {V = View} IsRuled 0 (Writer d) (Writer (copied d e)) (Copying (reader_after d e))
copies_out d e p inhand same fetch some_left some_block s rule at = rule_of _ _ (cuts.pins_out d e p inhand same fetch some_left some_block s rule.carried at)

-- a worker that copies loads a word of its image
pub copies : (slots id : ℕ) (c : Reader) (i : ℕ) → c.first ≤ i → i < c.first + length c.content → Allows {S = ℕ} {V = View} IsRuled slots id (Copying c, []) i (λ n. n) (Copies (step slots i 0 0 none) (Copying c, []))
copies slots id c i lo hi s rule count at fits = let r = more.copies slots id c i lo hi s rule.carried count at fits in (r.0, r.1, r.2, rule_of _ _ r.3, r.4)

-- a worker that copies releases its block
pub releases : (slots id : ℕ) (c : Reader) → Allows {S = ℕ} {V = View} IsRuled slots id (Copying c, []) (c.block + PIN_COUNT) (λ n. (n + (18446744073709551616 - 1)) % 18446744073709551616) (Releases (step slots (c.block + PIN_COUNT) 1 0 none) (Copying c, []))
releases slots id c s rule count at fits = let r = more.releases slots id c s rule.carried count at fits in (r.0, r.1, r.2, rule_of _ _ r.3, r.4)

-- at the end the words are the writer's
pub dissolves : (s : State ℕ View) (d : WriterState) → IsRuled s → get_elem? s.views 0 ≡ some (Writer d) → d.pinning ≡ 0 → ((w : ℕ) → w < d.log.made → has_worker w d.log.closed ≡ true) → s.words ≡ d.words
dissolves s d rule at nothing every = first.dissolves s d rule.carried at nothing every
