-- What the values of a request of a scope are.
use Rattle.std.proofs.Common.{◌≡◌, ◌∙◌, ℕ, ◌+◌, ◌<◌, List, [], ◌∷◌, ◌++◌, drop, Bool}
use Rattle.std.proofs.Common.{true, false, ◌&&◌, not, if◌then◌else◌, Option, Some, None, refl, sym, ap, subst}
use Rattle.std.proofs.Common.{arith}
use Rattle.std.proofs.lemmas.Bool.{and_parts, leb-true}
use Rattle.std.proofs.lemmas.List.{take-append-drop}
use Rattle.std.proofs.lemmas.List.Folds.{list_all-append}
use Rattle.std.specs.BTreeSet.{insert_key}
use Rattle.std.specs.Char.{is_ascii_uppercase}
use Rattle.std.specs.Cmp.Lexicographic.{slice_cmp}
use Rattle.std.specs.List.{after_first, before_first, find, list_all, position_or_len}
use Rattle.std.specs.Ordering.{nat_cmp}
use Rattle.std.specs.Prelude.{codes, cond, nat_le, nat_lt, option_map, take, unwrap_or}
use Rattle.std.specs.Str.{str_eq_ignore_ascii_case, str_to_ascii_lowercase}
use Rattle.hc_base.specs.Bytes.{is_question, space}
use Rattle.hc_base.specs.Paths.{is_clean}
use Rattle.hc_dfa.specs.Automata.{accepts}
use Rattle.hc_dfa.specs.Texts.{IsText, TextSet}
use Rattle.hc_forms.specs.Forms.{is_method, is_name, is_target, is_target_byte, is_value, is_value_byte}
unfoldable use Rattle.hc_members.specs.Requests.{is_of_scope}
use Rattle.hc_members.specs.Requests.{are_headers, is_asked, is_listed, is_taken, reads_within}
use Rattle.hc_model.specs.declared.request.Header.{Header}
use Rattle.hc_model.specs.declared.request.Request.{Request}
use Rattle.hc_plan.proofs.Common.{and_both, and_left, and_right}
use Rattle.hc_plan.proofs.Made.{is_text, text_is}
use Rattle.hc_plan.proofs.Narrowed.{joined_bytes}
use Rattle.hc_plan.specs.Texts.{of_bytes}
use Rattle.hc_rw_expand.specs.Values.{request_line}
use Rattle.hc_scope.specs.Clients.{clients_of}
use Rattle.hc_scope.specs.declared.claim.Scope.{Scope}
use Rattle.hc_target.proofs.Placing.{answer_normal}
use Rattle.hc_target.specs.Escapes.{escapes_slash, has_bad_escape}
use Rattle.hc_target.specs.Segments.{is_plain}
use Rattle.hc_target.specs.Targets.{HasNormalPath, found, read, read_sent}
use Rattle.hc_target.specs.declared.target.TargetRead.TheVariants.{Bad400, Miss404, Path, PathByte}
use Rattle.hc_template.specs.Variables.{header_value}
use Rattle.hc_abs_start.specs.Starts.{is_path, is_query}

-- ---- texts of bytes

pub in_set : (set : TextSet) (text : List ℕ) → IsText text → set text ≡ true → of_bytes set text ≡ true
in_set set text bytes is = and_both (text_is text bytes) is

all_bytes : (test : ℕ → Bool) → ((b : ℕ) → test b ≡ true → b < 256) → (text : List ℕ)
    → list_all test text ≡ true → IsText text
all_bytes test small [] all = tt
all_bytes test small (b ∷ text) all =
    (small b (and_left (test b) _ all), all_bytes test small text (and_right (test b) _ all))

plain_text : (text : List ℕ) → list_all is_plain text ≡ true → IsText text
plain_text =
    all_bytes is_plain (λ b is.
    let most = leb-true b 255 (and_right _ (nat_le b 255) (and_left (nat_lt 32 b && nat_le b 255) _ is)) in
    omega arith)

target_text : (text : List ℕ) → list_all is_target_byte text ≡ true → IsText text
target_text =
    all_bytes is_target_byte (λ b is.
    let most = leb-true b 126 (and_right (nat_lt 32 b) (nat_le b 126) (and_left (nat_lt 32 b && nat_le b 126) _ is)) in
    omega arith)

pub value_text : (text : List ℕ) → list_all is_value_byte text ≡ true → IsText text
value_text =
    all_bytes is_value_byte (λ b is. let most = leb-true b 126 (and_right (nat_le 32 b) _ is) in omega arith)

capital_text : (text : List ℕ) → list_all is_ascii_uppercase text ≡ true → IsText text
capital_text =
    all_bytes is_ascii_uppercase (λ b is. let most = leb-true b 90 (and_right (nat_le 65 b) _ is) in omega arith)

-- ---- headers

pub valued : (names : List (List ℕ)) (headers : List Header) (name : List ℕ) → are_headers names headers ≡ true
    → list_all is_value_byte (header_value headers name) ≡ true
valued names [] name are = refl
valued names (header ∷ headers) name are =
    let lower = str_to_ascii_lowercase header.name in
    let all = and_parts (is_name header.name && is_value header.value && not (is_taken names lower)) _ are in
    let own = and_right (is_name header.name) (is_value header.value) (and_left _ (not (is_taken names lower)) all.0) in
    by (str_eq_ignore_ascii_case header.name name) (and_right _ (list_all is_value_byte header.value) own)
    (valued (insert_key (slice_cmp nat_cmp) names lower) headers name all.1)
  where
    by : (is : Bool) → list_all is_value_byte header.value ≡ true
        → list_all is_value_byte (header_value headers name) ≡ true
        → list_all is_value_byte (unwrap_or (option_map (λ (header : Header). header.value) (cond is (Some header)
        (find (λ (header : Header). str_eq_ignore_ascii_case header.name name) headers))) []) ≡ true
    by true own later = own
    by false own later = later

-- ---- the target

-- The query is what stands behind the first `?`.
query_sent : (front behind path query : List ℕ) → read_sent front behind ≡ Path path query → behind ≡ query
query_sent front behind path query =
    by (has_bad_escape front) (escapes_slash front) _ _
  where
    by : (bad slash plain : Bool) (normal : Option (List ℕ)) → (if bad then Bad400
        else (if slash then Miss404 else (if plain then found normal behind else PathByte))) ≡ Path path query
        → behind ≡ query
    by true slash plain normal is = cc
    by false true plain normal is = cc
    by false false false normal is = cc
    by false false true None is = cc
    by false false true (Some own) is = cc

behind_all : (test : ℕ → Bool) (count : ℕ) (text : List ℕ) → list_all test text ≡ true
    → list_all test (drop count text) ≡ true
behind_all test count text all =
    and_right (list_all test (take count text)) _
    (sym (list_all-append test (take count text) (drop count text)) ∙ ap (list_all test) (take-append-drop count text)
    ∙ all)

-- ---- requests

pub record Facts (scope : Scope) (request : Request) : Type 0 where
  pub client : clients_of scope.client request.client ≡ true
  pub method : list_all is_ascii_uppercase request.method ≡ true
  pub listed : is_listed scope.methods request.method ≡ true
  pub headers : are_headers [] request.headers ≡ true
  pub target : list_all is_target_byte request.target ≡ true
  pub within : reads_within scope (read request.target) ≡ true

pub facts_of : (scope : Scope) (request : Request) → is_of_scope scope request ≡ true → Facts scope request
unfolding is_of_scope
facts_of scope request is =
    let asked = is_asked scope request in
    let client = clients_of scope.client request.client in
    let method = is_method request.method && is_listed scope.methods request.method in
    let headers = are_headers [] request.headers in
    let target = and_parts (asked && client && method && headers) _ is in
    let headed = and_parts (asked && client && method) headers target.0 in
    let sent = and_parts (asked && client) method headed.0 in
    let of_method = and_parts (is_method request.method) _ sent.1 in
    let of_target = and_parts (is_target request.target) _ target.1 in
    record {
      client = and_right asked client sent.0;
      method = and_right _ (list_all is_ascii_uppercase request.method) of_method.0;
      listed = of_method.1;
      headers = headed.1;
      target = and_right _ (list_all is_target_byte request.target) of_target.0;
      within = of_target.1;
    }

module _ (scope : Scope) (request : Request) (facts : Facts scope request) where
  pub method_text : IsText request.method
  method_text = capital_text request.method facts.method

  pub line_text : IsText (request_line request)
  line_text =
      joined_bytes (request.method ++ space ∷ request.target) (codes " HTTP/1.1")
      (joined_bytes request.method (space ∷ request.target) method_text
      (omega arith, target_text request.target facts.target)) (is_text (codes " HTTP/1.1") refl)

  module _ (path query : List ℕ) (is : read request.target ≡ Path path query) where
    read_in : (accepts scope.path path && accepts scope.query query) ≡ true
    read_in = subst (λ found. reads_within scope found ≡ true) is facts.within

    pub path_in : of_bytes (is_path scope) path ≡ true
    path_in =
        let normal =
        subst HasNormalPath is (answer_normal (before_first is_question request.target)
        (after_first is_question request.target) (read request.target) refl) in
        in_set (is_path scope) path (plain_text path (and_right (is_clean path) _ normal))
        (and_both normal (and_left _ (accepts scope.query query) read_in))

    pub query_in : of_bytes (is_query scope) query ≡ true
    query_in =
        let bytes =
        subst (λ query. list_all is_target_byte query ≡ true)
        (query_sent (before_first is_question request.target) (after_first is_question request.target) path query is)
        (behind_all is_target_byte (position_or_len is_question request.target + 1) request.target facts.target) in
        in_set (is_query scope) query (target_text query bytes)
        (and_both bytes (and_right (accepts scope.path path) _ read_in))
