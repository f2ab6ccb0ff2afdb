-- The numbers of the settings for the default ring.
use Rattle.std.specs.Prelude.{ℕ, Option, Some, None, ◌==◌, if◌then◌else◌}
use Rattle.rk_names.specs.declared.context.Setting.{Setting}
use Rattle.rk_names.specs.declared.context.Setting.TheVariants as setting

-- keyctl(2): KEY_REQKEY_DEFL_DEFAULT to KEY_REQKEY_DEFL_REQUESTOR_KEYRING
abbrev pub setting_number : Setting → ℕ
setting_number setting.Default = 0
setting_number setting.Thread = 1
setting_number setting.Process = 2
setting_number setting.Session = 3
setting_number setting.User = 4
setting_number setting.Requestor = 7

-- the setting that has a number: those of group and user-session rings are left out
abbrev pub setting_named : ℕ → Option Setting
setting_named n =
    if n == 0 then Some setting.Default
    else (if n == 1 then Some setting.Thread
    else (if n == 2 then Some setting.Process
    else (if n == 3 then Some setting.Session
    else (if n == 4 then Some setting.User
    else (if n == 7 then Some setting.Requestor else None)))))
