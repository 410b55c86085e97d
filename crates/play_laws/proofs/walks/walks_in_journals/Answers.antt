use Rattle.script_read.specs.Play.{nothing_played}
use Rattle.play_laws.specs.JournalEvents.{events_from}
use Rattle.play_laws.proofs.JournalCalls as lemmas
use Rattle.play_laws.proofs.walks.walks_in_journals.Goals as goal

pub returns-clause-asked : goal.returns-clause-asked
returns-clause-asked c = λ conf scripts before during p q w step first whole makes. (lemmas.call_told conf scripts before during p q w step first whole makes).asked

pub returns-clause-replies : goal.returns-clause-replies
returns-clause-replies c = λ conf scripts before during p q w step first whole makes. (lemmas.call_told conf scripts before during p q w step first whole makes).replies

pub returns-clause-once : goal.returns-clause-once
returns-clause-once c = λ conf scripts before during p q w step wanted size fields key first whole makes is.
    let early = events_from conf scripts (nothing_played conf scripts) before in
    lemmas.once c.events_keep.ensures conf early (events_from conf scripts p during) p q w step wanted size fields key is (lemmas.call_told conf scripts before during p q w step first whole makes)

pub returns-clause-all : goal.returns-clause-all
returns-clause-all c = λ conf scripts before during p q w step wanted size fields key some slots first whole makes is done there.
    let early = events_from conf scripts (nothing_played conf scripts) before in
    lemmas.all c.events_keep.ensures conf early (events_from conf scripts p during) p q w step wanted size fields key some slots is done (lemmas.call_told conf scripts before during p q w step first whole makes) there
