use Rattle.volume_sessions.specs.Opening.{IsPutAs}
use Rattle.updater_pool.specs.ZipLaws.{zip_behind}
use Rattle.volume_sessions.proofs.running.+notes_of.Goals as goal

pub returns-clause-notes : goal.returns-clause-notes
returns-clause-notes g t c =
    zip_behind IsPutAs _ c.in-Some.parts.1.now _ c.notes_of-all.result.items c.in-Some.parts.0.now _ c.in-Some.ensures.cases.0 c.push_reserved.ensures.items c.notes_of-all.ensures.notes c.note_of.ensures
