-- What a start makes beside its answer.
use Rattle.std.specs.Prelude.{◌≡◌, ℕ, Option, None, Some}
use Rattle.rk_macro.specs.declared.subject.Subject.{Subject}
use Rattle.rk_machine.specs.declared.event.Answer.{Answer}
use Rattle.rk_machine.specs.declared.event.Answer.TheVariants.{Start}
use Rattle.rk_core.specs.declared.subject_copies.SubjectCopies.{SubjectCopies}
use Rattle.rk_core.specs.declared.subject_copies.SubjectCopies.TheVariants.{Unwanted, Wanted, Made}

-- a start has made two copies of its subject, where they were wanted
abbrev pub Copied : Answer → SubjectCopies → SubjectCopies → Type 0
Copied (Start k subject) old new = old ≡ Wanted → new ≡ Made subject subject
Copied _ old new = Unit {0}

-- two copies of the subject, where they are wanted
abbrev pub copies_of : SubjectCopies → Subject → SubjectCopies
copies_of Wanted subject = Made subject subject
copies_of _ subject = Unwanted

-- the same with this key
abbrev pub keyed : ℕ → SubjectCopies → SubjectCopies
keyed k (Made first second) = Made (record first { key = k }) (record second { key = k })
keyed k copies = copies

-- one for each who keeps a copy
abbrev pub pair_of : SubjectCopies → Option Subject × Option Subject
pair_of (Made first second) = (Some first, Some second)
pair_of copies = (None, None)
