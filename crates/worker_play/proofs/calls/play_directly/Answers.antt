use Rattle.std.proofs.Common.{refl, sym, ap, ◌∙◌, rules}
use Rattle.script_read.specs.declared.call.Call.TheVariants.{StoreMany, FetchMany, ExistsMany, DeleteMany, Enabled}
use Rattle.worker_play.proofs.PassProgress.{nothing_asked, nothing_made, on_ok, of_if_ok}
use Rattle.worker_play.proofs.CallForms.{call_asks, call_tells, told_once}
use Rattle.worker_play.proofs.calls.play_directly.Goals as goal

-- ---- what the calls ask for

pub play_flagged-requires-clause-whole : goal.play_flagged-requires-clause-whole
play_flagged-requires-clause-whole g c = c.requires.whole

pub store_all-requires-clause-table : goal.store_all-requires-clause-table
store_all-requires-clause-table g c = c.requires.table

pub store_all-requires-clause-whole : goal.store_all-requires-clause-whole
store_all-requires-clause-whole g c = c.requires.whole

pub fetch_text-requires-clause-whole : goal.fetch_text-requires-clause-whole
fetch_text-requires-clause-whole g c = c.requires.whole

pub fetch_all-requires-clause-table : goal.fetch_all-requires-clause-table
fetch_all-requires-clause-table g c = c.requires.table

pub fetch_all-requires-clause-whole : goal.fetch_all-requires-clause-whole
fetch_all-requires-clause-whole g c = c.requires.whole

pub look_for_all-requires-clause-table : goal.look_for_all-requires-clause-table
look_for_all-requires-clause-table g c = c.requires.table

pub look_for_all-requires-clause-whole : goal.look_for_all-requires-clause-whole
look_for_all-requires-clause-whole g c = c.requires.whole

pub delete_all-requires-clause-table : goal.delete_all-requires-clause-table
delete_all-requires-clause-table g c = c.requires.table

pub delete_all-requires-clause-whole : goal.delete_all-requires-clause-whole
delete_all-requires-clause-whole g c = c.requires.whole

pub inc-pass-requires-clause-whole : goal.inc-pass-requires-clause-whole
inc-pass-requires-clause-whole g c = c.requires.whole

pub entry-pass-requires-clause-whole : goal.entry-pass-requires-clause-whole
entry-pass-requires-clause-whole g c = c.requires.whole

pub clear-pass-requires-clause-whole : goal.clear-pass-requires-clause-whole
clear-pass-requires-clause-whole g c = c.requires.whole

pub play_told-requires-clause-whole : goal.play_told-requires-clause-whole
play_told-requires-clause-whole g c = c.requires.whole

-- ---- one event

pub returns-in-Inc-clause-line : goal.returns-in-Inc-clause-line
returns-in-Inc-clause-line g c = on_ok c.write_number.result (λ e. told_once _ _ _ _ _ _ _ _ _ _ _ c.in-Inc.is c.inc-pass.ensures (search rules) refl e) c.write_number.ensures

pub returns-in-Clear-clause-line : goal.returns-in-Clear-clause-line
returns-in-Clear-clause-line g c = on_ok c.write_flag.result (λ e. told_once _ _ _ _ _ _ _ _ _ _ _ c.in-Clear.is c.clear-pass.ensures refl refl e) c.write_flag.ensures

pub returns-in-Ok-clause-line : goal.returns-in-Ok-clause-line
returns-in-Ok-clause-line g c = on_ok c.write_gave.result (λ e. told_once _ _ _ _ _ _ _ _ _ _ _ c.in-Entry.is (of_if_ok _ c.entry-pass.result.1 c.in-Ok.value c.in-Ok.is c.entry-pass.ensures.given) refl refl e) c.write_gave.ensures

pub returns-in-FetchOne-clause-line : goal.returns-in-FetchOne-clause-line
returns-in-FetchOne-clause-line g c = on_ok c.fetch_text.result.1 (λ e. told_once _ _ _ _ _ _ _ _ _ _ _ c.in-FetchOne.is c.fetch_text.ensures.1 refl refl e) c.fetch_text.ensures.2

-- ---- an event for each key

pub returns-in-StoreMany-clause-reaches : goal.returns-in-StoreMany-clause-reaches
returns-in-StoreMany-clause-reaches g c = call_asks _ _ _ _ _ _ _ (c.in-StoreMany.is ∙ ap (λ ps. StoreMany ps c.in-StoreMany.ttl c.in-StoreMany.exclusive) (sym c.as_slice.ensures)) c.store_all.ensures.reaches

pub returns-in-StoreMany-clause-line : goal.returns-in-StoreMany-clause-line
returns-in-StoreMany-clause-line g c = on_ok c.store_all.result.1 (λ told. call_tells _ _ _ _ _ _ _ _ _ (c.in-StoreMany.is ∙ ap (λ ps. StoreMany ps c.in-StoreMany.ttl c.in-StoreMany.exclusive) (sym c.as_slice.ensures)) told) c.store_all.ensures.line

pub returns-in-FetchMany-clause-reaches : goal.returns-in-FetchMany-clause-reaches
returns-in-FetchMany-clause-reaches g c = call_asks _ _ _ _ _ _ _ (c.in-FetchMany.is ∙ ap FetchMany (sym c.as_slice-in-FetchMany.ensures)) c.fetch_all.ensures.reaches

pub returns-in-FetchMany-clause-line : goal.returns-in-FetchMany-clause-line
returns-in-FetchMany-clause-line g c = on_ok c.fetch_all.result.1 (λ told. call_tells _ _ _ _ _ _ _ _ _ (c.in-FetchMany.is ∙ ap FetchMany (sym c.as_slice-in-FetchMany.ensures)) told) c.fetch_all.ensures.line

pub returns-in-ExistsMany-clause-reaches : goal.returns-in-ExistsMany-clause-reaches
returns-in-ExistsMany-clause-reaches g c = call_asks _ _ _ _ _ _ _ (c.in-ExistsMany.is ∙ ap ExistsMany (sym c.as_slice-in-ExistsMany.ensures)) c.look_for_all.ensures.reaches

pub returns-in-ExistsMany-clause-line : goal.returns-in-ExistsMany-clause-line
returns-in-ExistsMany-clause-line g c = on_ok c.look_for_all.result.1 (λ told. call_tells _ _ _ _ _ _ _ _ _ (c.in-ExistsMany.is ∙ ap ExistsMany (sym c.as_slice-in-ExistsMany.ensures)) told) c.look_for_all.ensures.line

pub returns-in-DeleteMany-clause-reaches : goal.returns-in-DeleteMany-clause-reaches
returns-in-DeleteMany-clause-reaches g c = call_asks _ _ _ _ _ _ _ (c.in-DeleteMany.is ∙ ap DeleteMany (sym c.as_slice-in-DeleteMany.ensures)) c.delete_all.ensures.reaches

pub returns-in-DeleteMany-clause-line : goal.returns-in-DeleteMany-clause-line
returns-in-DeleteMany-clause-line g c = on_ok c.delete_all.result.1 (λ told. call_tells _ _ _ _ _ _ _ _ _ (c.in-DeleteMany.is ∙ ap DeleteMany (sym c.as_slice-in-DeleteMany.ensures)) told) c.delete_all.ensures.line

-- ---- no event

pub returns-in-Enabled-clause-reaches : goal.returns-in-Enabled-clause-reaches
returns-in-Enabled-clause-reaches g c = nothing_asked _ _ _ _ c.requires.whole

pub returns-in-Enabled-clause-line : goal.returns-in-Enabled-clause-line
returns-in-Enabled-clause-line g c =
    on_ok c.write_flag-in-Enabled.result (λ e. call_tells _ _ _ _ _ _ Enabled _ _ c.in-Enabled.is (record { asked = nothing_asked _ _ _ _ c.requires.whole; over = refl; is = e })) c.write_flag-in-Enabled.ensures

pub returns-in-Err-clause-reaches : goal.returns-in-Err-clause-reaches
returns-in-Err-clause-reaches g c =
    nothing_made _ _ _ _ _ c.entry-pass.result.1 c.in-Err.e c.in-Err.is c.entry-pass.ensures.same c.requires.whole
