-- A request that borrows its words.
use Rattle.rk_macro.specs.declared.subject.Subject.{Subject}
use Rattle.rk_preview.specs.declared.preview.Outline.{Outline}
use Rattle.rk_preview.specs.Asked.{Asked, pick}

-- its subject
abbrev pub subject_by : Outline → Subject
subject_by o = record {
  key = o.numbers.key;
  op = o.op;
  typ = o.names.typ.now;
  desc = o.names.desc.now;
  callout = o.names.callout.now;
  uid = o.numbers.uid;
  gid = o.numbers.gid;
  thread = o.numbers.thread;
  process = o.numbers.process;
  session = o.numbers.session;
}

-- what it asks for
abbrev pub outlined_by : Outline → Asked
outlined_by o = pick o.conf.now (subject_by o)
