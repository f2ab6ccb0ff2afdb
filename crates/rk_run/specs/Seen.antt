-- What a look says.
use Rattle.std.specs.Prelude.{ℕ, List, Option, option_map, string_bytes}
use Rattle.rk_run.specs.declared.host.Here.{Here}

-- who runs a program; what is preloaded there, the socket of the environment and the folder, each if there is one; where the library and reqkey-trap stand
pub record Seen : Type 0 where
  pub uid : ℕ
  pub gid : ℕ
  pub preloaded : Option (List ℕ)
  pub socket : Option (List ℕ)
  pub folder : Option (List ℕ)
  pub installed : List ℕ
  pub trap : List ℕ

-- the same, of what was looked at
abbrev pub seen_in : Here → Seen
seen_in here = record {
  uid = here.uid;
  gid = here.gid;
  preloaded = option_map string_bytes here.preloaded;
  socket = option_map string_bytes here.socket;
  folder = option_map string_bytes here.folder;
  installed = string_bytes here.installed;
  trap = string_bytes here.trap;
}
