-- The commands of a script: what JSON a line is, and which command that is. Our own choice.
use Rattle.std.specs.Prelude.{ℕ, List, [], ◌∷◌, Bool, false, if◌then◌else◌, Option, Some, None, option_and_then}
use Rattle.std.specs.Prelude.{Result, Ok, Err, codes}
use Rattle.std.specs.Str.{bytes_eq, is_utf8}
use Rattle.serde_json.specs.Data.{Data}
use Rattle.serde_json.specs.Find.{as_str, get}
use Rattle.serde_json.specs.Read.{read}
use Rattle.hc_base.specs.declared.codes.TheConstants.{BAD_COMMAND, BAD_JSON}
use Rattle.hc_base.specs.declared.place.Refusal.{Refusal}
use Rattle.hc_json.specs.Asked.{Question, asked_in, request_in}
use Rattle.hc_json.specs.Cells.{CellForm, cells_in}
use Rattle.hc_json.specs.Claims.{ClaimForm, ScopeForm, claim_in, scope_in}
use Rattle.hc_json.specs.Fields.{no_other, required, ◌>>=◌}
use Rattle.hc_json.specs.Forms.{line_in}
use Rattle.hc_json.specs.Hosts.{HostForm, ending_in, hosts_in}
use Rattle.hc_model.specs.declared.request.Request.{Request}
use Rattle.hc_world.specs.declared.world.ListKind.{ListKind}
use Rattle.hc_world.specs.declared.world.ListKind.TheVariants.{File, Dir}

pub data Command : Type 0 where
  -- a path and its text
  put : List ℕ → List ℕ → Command
  list : List ℕ → ListKind → Command
  drop : List ℕ → Command
  -- the lines of a path from one to another, and the text that comes in their place
  edit : List ℕ → ℕ → ℕ → List ℕ → Command
  main : List ℕ → Command
  check : Command
  ask : Question → Command
  -- a request, and the own servers to which its redirects are followed
  follow : Request → List HostForm → Command
  -- what is claimed, and of which requests
  decide : ClaimForm → ScopeForm → Command
  -- the own servers to which chains of redirects are followed, of which it is claimed that they end
  ends : List HostForm → ScopeForm → Command
  -- a claim and its requests, and the cells that may show it
  verify : ClaimForm → ScopeForm → List CellForm → Command
  stats : Command
  end : Command

-- The JSON value that a line is, if it is UTF-8 and JSON.
abbrev pub json_of : List ℕ → Option Data
json_of line = if is_utf8 line then read line else None

-- ---- what the fields of each give

abbrev pub put_in : Data → Result Command (List ℕ)
put_in d = required (codes "path") d >>= λ path. required (codes "text") d >>= λ bytes. Ok (put path bytes)

-- The kind of a listed path, or the name of the field.
abbrev pub list_kind : List ℕ → Result ListKind (List ℕ)
list_kind name =
    if bytes_eq name (codes "file") then Ok File
    else (if bytes_eq name (codes "dir") then Ok Dir
    else Err (codes "kind"))

abbrev pub list_in : Data → Result Command (List ℕ)
list_in d =
    required (codes "path") d >>= λ path.
    required (codes "kind") d >>= λ name.
    list_kind name >>= λ kind.
    Ok (list path kind)

abbrev pub drop_in : Data → Result Command (List ℕ)
drop_in d = required (codes "path") d >>= λ path. Ok (drop path)

abbrev pub edit_in : Data → Result Command (List ℕ)
edit_in d =
    required (codes "path") d >>= λ path.
    line_in (codes "from") d >>= λ from.
    line_in (codes "to") d >>= λ to.
    required (codes "text") d >>= λ bytes.
    Ok (edit path from to bytes)

abbrev pub main_in : Data → Result Command (List ℕ)
main_in d = required (codes "path") d >>= λ path. Ok (main path)

abbrev pub ask_in : Data → Result Command (List ℕ)
ask_in d = asked_in d >>= λ question. Ok (ask question)

abbrev pub follow_in : Data → Result Command (List ℕ)
follow_in d = request_in d >>= λ request. hosts_in d >>= λ hosts. Ok (follow request hosts)

abbrev pub is_ends : Option (List ℕ) → Bool
is_ends None = false
is_ends (Some kind) = bytes_eq kind (codes "ends")

-- Whether the claim is of the kind `ends`.
abbrev pub claims_end : Data → Bool
claims_end d = is_ends (option_and_then as_str (option_and_then (get (codes "kind")) (get (codes "claim") d)))

abbrev pub claimed_in : Data → Result Command (List ℕ)
claimed_in d = claim_in d >>= λ claim. scope_in d >>= λ scope. Ok (decide claim scope)

abbrev pub ends_in : Data → Result Command (List ℕ)
ends_in d = ending_in d >>= λ hosts. scope_in d >>= λ scope. Ok (ends hosts scope)

abbrev pub decide_in : Data → Result Command (List ℕ)
decide_in d = if claims_end d then ends_in d else claimed_in d

abbrev pub verify_in : Data → Result Command (List ℕ)
verify_in d =
    claim_in d >>= λ claim.
    scope_in d >>= λ scope.
    cells_in d >>= λ cells.
    Ok (verify claim scope cells)

-- ---- which fields each has

abbrev pub put_fields : List (List ℕ)
put_fields = codes "do" ∷ codes "path" ∷ codes "text" ∷ []

abbrev pub list_fields : List (List ℕ)
list_fields = codes "do" ∷ codes "path" ∷ codes "kind" ∷ []

abbrev pub path_fields : List (List ℕ)
path_fields = codes "do" ∷ codes "path" ∷ []

abbrev pub edit_fields : List (List ℕ)
edit_fields = codes "do" ∷ codes "path" ∷ codes "from" ∷ codes "to" ∷ codes "text" ∷ []

abbrev pub no_fields : List (List ℕ)
no_fields = codes "do" ∷ []

abbrev pub ask_fields : List (List ℕ)
ask_fields =
    codes "do" ∷ codes "target" ∷ codes "method" ∷ codes "scheme" ∷ codes "server" ∷ codes "port"
    ∷ codes "host"
    ∷ codes "client" ∷ codes "headers" ∷ codes "trail" ∷ []

abbrev pub follow_fields : List (List ℕ)
follow_fields =
    codes "do" ∷ codes "target" ∷ codes "method" ∷ codes "scheme" ∷ codes "server" ∷ codes "port"
    ∷ codes "host"
    ∷ codes "client" ∷ codes "headers" ∷ codes "hosts" ∷ []

abbrev pub decide_fields : List (List ℕ)
decide_fields = codes "do" ∷ codes "claim" ∷ codes "scope" ∷ []

abbrev pub verify_fields : List (List ℕ)
verify_fields = codes "do" ∷ codes "claim" ∷ codes "scope" ∷ codes "cells" ∷ []

-- ---- the commands

abbrev pub with_fields : List (List ℕ) → (Data → Result Command (List ℕ)) → Data → Result Command (List ℕ)
with_fields known reading d = no_other known d (reading d)

abbrev pub without_fields : Command → Data → Result Command (List ℕ)
without_fields command d = no_other no_fields d (Ok command)

-- Those that edit the files or name the main one.
abbrev pub edit_named : List ℕ → Data → Option (Result Command (List ℕ))
edit_named name d =
    if bytes_eq name (codes "put") then Some (with_fields put_fields put_in d)
    else (if bytes_eq name (codes "list") then Some (with_fields list_fields list_in d)
    else (if bytes_eq name (codes "drop") then Some (with_fields path_fields drop_in d)
    else (if bytes_eq name (codes "edit") then Some (with_fields edit_fields edit_in d)
    else (if bytes_eq name (codes "main") then Some (with_fields path_fields main_in d)
    else None))))

abbrev pub question_named : List ℕ → Data → Result Command (List ℕ)
question_named name d =
    if bytes_eq name (codes "check") then without_fields check d
    else (if bytes_eq name (codes "ask") then with_fields ask_fields ask_in d
    else (if bytes_eq name (codes "follow") then with_fields follow_fields follow_in d
    else (if bytes_eq name (codes "decide") then with_fields decide_fields decide_in d
    else (if bytes_eq name (codes "verify") then with_fields verify_fields verify_in d
    else (if bytes_eq name (codes "stats") then without_fields stats d
    else (if bytes_eq name (codes "end") then without_fields end d
    else Err (codes "do")))))))

abbrev pub or_question : List ℕ → Data → Option (Result Command (List ℕ)) → Result Command (List ℕ)
or_question name d (Some read) = read
or_question name d None = question_named name d

abbrev pub command_named : List ℕ → Data → Result Command (List ℕ)
command_named name d = or_question name d (edit_named name d)

-- The command that a value is, or its first wrong field: `do` where it is missing or unknown; else
-- the least unknown field; else the first field of the command that is missing or ill-formed.
abbrev pub command_in : Data → Result Command (List ℕ)
command_in d = required (codes "do") d >>= λ name. command_named name d

-- ---- the command of a line

-- A refused line. Its place is no file.
abbrev pub bad_line : ℕ → List ℕ → Refusal
bad_line code field = record { place = record { file = []; line = 0 }; code = code; at = 0; field = field }

-- With the field that is wrong.
abbrev pub unless_wrong : Result Command (List ℕ) → Result Command Refusal
unless_wrong (Ok command) = Ok command
unless_wrong (Err field) = Err (bad_line BAD_COMMAND field)

abbrev pub command_of_json : Option Data → Result Command Refusal
command_of_json None = Err (bad_line BAD_JSON [])
command_of_json (Some d) = unless_wrong (command_in d)

-- The command that a line is.
abbrev pub command_of : List ℕ → Result Command Refusal
command_of line = command_of_json (json_of line)
