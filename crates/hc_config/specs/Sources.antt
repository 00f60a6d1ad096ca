-- Where a directive may stand in the configuration, and in a `.htaccess`.
-- Apache manual, core, AllowOverride; the "Context" and "Override" of each directive. That what stands in a section of
-- a
-- `.htaccess` has to be allowed in both is our own choice.
use Rattle.std.specs.Prelude.{Bool, true, false, not, ◌&&◌, Option, Some, None, Result, Ok, Err}
use Rattle.hc_base.specs.Rules.{rule}
use Rattle.hc_base.specs.declared.codes.TheConstants.{OVERRIDE_NOT_ALLOWED}
use Rattle.hc_base.specs.declared.fault.AtByte.{AtByte}
use Rattle.hc_expr.specs.Reading.{lesser}
use Rattle.hc_model.specs.declared.section.Allowed.{Allowed}
use Rattle.hc_table.specs.Contexts.{contain}
use Rattle.hc_table.specs.declared.context.Context.{Context}
use Rattle.hc_table.specs.declared.context.Context.TheVariants.{Htaccess, MainServer}
use Rattle.hc_table.specs.declared.directive.Class.{Class}
use Rattle.hc_table.specs.declared.directive.Class.TheVariants as class
use Rattle.hc_table.specs.declared.table.DirectiveKind.{DirectiveKind}
use Rattle.hc_config.specs.declared.source.Source.{Source}
use Rattle.hc_config.specs.declared.source.Source.TheVariants.{Configuration, Override}

-- ---- contexts

-- Outside all sections.
abbrev pub top_context : Source → Context
top_context Configuration = MainServer
top_context (Override allowed) = Htaccess

abbrev pub may_stand : Source → Context → DirectiveKind → Bool
may_stand Configuration context kind = contain kind.contexts context
may_stand (Override allowed) context kind = contain kind.contexts context && contain kind.contexts Htaccess

-- ---- classes

-- A directive without a class needs none.
abbrev pub is_class_allowed : Allowed → Option Class → Bool
is_class_allowed allowed None = true
is_class_allowed allowed (Some class.AuthConfig) = allowed.auth
is_class_allowed allowed (Some class.FileInfo) = allowed.file_info
is_class_allowed allowed (Some class.Indexes) = allowed.indexes
is_class_allowed allowed (Some class.Limit) = allowed.limit
is_class_allowed allowed (Some class.Options) = allowed.options

abbrev pub is_forbidden : Source → DirectiveKind → Bool
is_forbidden Configuration kind = false
is_forbidden (Override allowed) kind = not (is_class_allowed allowed kind.class)

-- The smaller number counts (Broken.antt).
abbrev pub unless_forbidden : {A : Type 0} → Bool → Result A AtByte → Result A AtByte
unless_forbidden false answer = answer
unless_forbidden true (Ok effect) = Err (rule OVERRIDE_NOT_ALLOWED)
unless_forbidden true (Err broken) = Err (lesser broken (rule OVERRIDE_NOT_ALLOWED))
