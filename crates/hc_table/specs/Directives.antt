-- The directives and the containers, with their contexts, classes and wordings. Pages of the manual: core,
-- mod_alias, mod_authz_core, mod_rewrite, mod_so, mod_userdir. The contexts and classes of inert
-- directives are our own choice.
use Rattle.std.specs.Prelude.{ℕ, List, [], ◌∷◌, Option, Some, None, option_map, codes}
use Rattle.std.specs.List.{flat_map}
use Rattle.hc_table.specs.declared.context.Contexts.{Contexts}
use Rattle.hc_table.specs.declared.context.Contexts.TheVariants as contexts
use Rattle.hc_table.specs.declared.directive.Class.{Class}
use Rattle.hc_table.specs.declared.directive.Class.TheVariants as class
use Rattle.hc_table.specs.declared.directive.Directive.{Directive}
use Rattle.hc_table.specs.declared.directive.Directive.TheVariants as name
use Rattle.hc_table.specs.declared.directive.Meaning.{Meaning}
use Rattle.hc_table.specs.declared.directive.Meaning.TheVariants as meaning
use Rattle.hc_table.specs.declared.directive.SectionName.{SectionName}
use Rattle.hc_table.specs.declared.directive.SectionName.TheVariants as opens
use Rattle.hc_table.specs.declared.directive.Wording.{Wording}
use Rattle.hc_table.specs.declared.directive.Wording.TheVariants.{Configuration, Rewriting}
use Rattle.hc_table.specs.declared.table.DirectiveKind.{DirectiveKind}
use Rattle.hc_table.specs.Table.{Names, all_rows, find_in, rows_of}

-- Names of one meaning, contexts, class and wording.
abbrev named : Meaning → Contexts → Option Class → Wording → List ℕ → Names DirectiveKind
named meaning contexts class wording names =
    rows_of (record { meaning = meaning; contexts = contexts; class = class; wording = wording }) names

abbrev directive : Directive → Contexts → Option Class → List ℕ → Names DirectiveKind
directive one contexts class names = named (meaning.Directive one) contexts class Configuration names

-- A directive whose words are written as in rewriting.
abbrev rewriting : Directive → Contexts → Option Class → List ℕ → Names DirectiveKind
rewriting one contexts class names = named (meaning.Directive one) contexts class Rewriting names

abbrev section : SectionName → Contexts → Option Class → List ℕ → Names DirectiveKind
section one contexts class names = named (meaning.Section one) contexts class Configuration names

abbrev inert : Contexts → Option Class → List (List ℕ) → Names DirectiveKind
inert contexts class lines = flat_map (directive name.Inert contexts class) lines

-- Shut, as the tables of flags and variables are, so that a goal that names it stays short.
unfoldable pub directive_rows : Names DirectiveKind
directive_rows =
    all_rows (
    directive name.ServerRoot contexts.MainServer None (codes "ServerRoot") ∷
    directive name.DocumentRoot contexts.Servers None (codes "DocumentRoot") ∷
    directive name.ServerName contexts.Servers None (codes "ServerName") ∷
    directive name.ServerAlias contexts.VirtualHost None (codes "ServerAlias") ∷
    directive name.Define contexts.AllButHtaccess None (codes "Define") ∷
    directive name.Include contexts.AllButHtaccess None (codes "Include") ∷
    directive name.IncludeOptional contexts.AllButHtaccess None (codes "IncludeOptional") ∷
    directive name.Alias contexts.Servers None (codes "Alias") ∷
    directive name.ScriptAlias contexts.Servers None (codes "ScriptAlias") ∷
    directive name.AliasMatch contexts.Servers None (codes "AliasMatch") ∷
    directive name.Redirect contexts.ServersAndDirectories (Some class.FileInfo) (codes "Redirect") ∷
    directive name.RedirectMatch contexts.ServersAndDirectories (Some class.FileInfo) (codes "RedirectMatch") ∷
    directive name.RedirectPermanent contexts.ServersAndDirectories (Some class.FileInfo)
    (codes "RedirectPermanent") ∷
    directive name.RedirectTemp contexts.ServersAndDirectories (Some class.FileInfo) (codes "RedirectTemp") ∷
    directive name.Options contexts.Everywhere (Some class.Options) (codes "Options") ∷
    directive name.AllowOverride contexts.Directory None (codes "AllowOverride") ∷
    directive name.Require contexts.AllButServers (Some class.AuthConfig) (codes "Require") ∷
    directive name.AuthMerging contexts.AllButServers (Some class.AuthConfig) (codes "AuthMerging") ∷
    directive name.RewriteEngine contexts.ServersAndDirectories (Some class.FileInfo) (codes "RewriteEngine") ∷
    directive name.RewriteBase contexts.Directories (Some class.FileInfo) (codes "RewriteBase") ∷
    rewriting name.RewriteCond contexts.ServersAndDirectories (Some class.FileInfo) (codes "RewriteCond") ∷
    rewriting name.RewriteRule contexts.ServersAndDirectories (Some class.FileInfo) (codes "RewriteRule") ∷
    directive name.RewriteOptions contexts.ServersAndDirectories (Some class.FileInfo) (codes "RewriteOptions") ∷
    directive name.LimitInternalRecursion contexts.Servers None (codes "LimitInternalRecursion") ∷
    directive name.RewriteMap contexts.Servers None (codes "RewriteMap") ∷
    directive name.UseCanonicalName contexts.AllButHtaccess None (codes "UseCanonicalName") ∷
    directive name.UserDir contexts.Servers None (codes "UserDir") ∷
    directive name.AccessFileName contexts.Servers None (codes "AccessFileName") ∷
    directive name.LoadModule contexts.Servers None (codes "LoadModule") ∷
    section opens.VirtualHost contexts.MainServer None (codes "VirtualHost") ∷
    section opens.Directory contexts.Servers None (codes "Directory") ∷
    section opens.DirectoryMatch contexts.Servers None (codes "DirectoryMatch") ∷
    section opens.Location contexts.Servers None (codes "Location") ∷
    section opens.LocationMatch contexts.Servers None (codes "LocationMatch") ∷
    section opens.Files contexts.AroundFiles None (codes "Files") ∷
    section opens.FilesMatch contexts.AroundFiles None (codes "FilesMatch") ∷
    section opens.If contexts.AllButIf None (codes "If") ∷
    section opens.ElseIf contexts.AllButIf None (codes "ElseIf") ∷
    section opens.Else contexts.AllButIf None (codes "Else") ∷
    section opens.RequireAll contexts.AllButServers (Some class.AuthConfig) (codes "RequireAll") ∷
    section opens.RequireAny contexts.AllButServers (Some class.AuthConfig) (codes "RequireAny") ∷
    section opens.RequireNone contexts.AllButServers (Some class.AuthConfig) (codes "RequireNone") ∷
    section opens.IfDefine contexts.Everywhere None (codes "IfDefine") ∷
    section opens.IfModule contexts.Everywhere None (codes "IfModule") ∷
    inert contexts.Servers None (
    codes "Listen User Group ServerAdmin ServerTokens DefaultRuntimeDir RequestReadTimeout" ∷
    codes "Timeout KeepAlive MaxKeepAliveRequests KeepAliveTimeout PidFile Mutex" ∷
    codes "ErrorLog CustomLog LogFormat TypesConfig MIMEMagicFile TraceEnable" ∷
    codes "StartServers MinSpareServers MaxSpareServers MinSpareThreads MaxSpareThreads" ∷
    codes "ThreadsPerChild ThreadLimit ServerLimit MaxRequestWorkers MaxConnectionsPerChild" ∷
    codes "ExtendedStatus Protocols SSLEngine SSLCertificateFile SSLCertificateKeyFile" ∷
    codes "SSLCertificateChainFile SSLCACertificateFile SSLProtocol SSLHonorCipherOrder" ∷
    codes "SSLSessionCache SSLSessionCacheTimeout SSLSessionTickets SSLPassPhraseDialog" ∷
    codes "SSLRandomSeed SSLCryptoDevice SSLUseStapling SSLStaplingCache" ∷ []) ∷
    inert contexts.Everywhere (Some class.FileInfo) (
    codes "AddType AddHandler AddCharset AddLanguage AddEncoding AddDefaultCharset" ∷
    codes "AddOutputFilter AddOutputFilterByType SetHandler SetOutputFilter SetInputFilter" ∷
    codes "ForceType RemoveHandler RemoveType ErrorDocument Header RequestHeader" ∷
    codes "SetEnv UnsetEnv PassEnv SetEnvIf SetEnvIfNoCase BrowserMatch BrowserMatchNoCase" ∷
    codes "FileETag DefaultLanguage LanguagePriority ForceLanguagePriority" ∷
    codes "EnableSendfile EnableMMAP AcceptPathInfo" ∷ []) ∷
    inert contexts.Everywhere (Some class.Indexes) (
    codes "DirectoryIndex DirectorySlash IndexOptions IndexIgnore AddIcon AddIconByType" ∷
    codes "AddIconByEncoding DefaultIcon AddAlt AddDescription HeaderName ReadmeName" ∷
    codes "IndexOrderDefault IndexStyleSheet ExpiresActive ExpiresByType ExpiresDefault" ∷ []) ∷
    inert contexts.Everywhere (Some class.Options) (codes "SSLOptions php_value php_flag" ∷ []) ∷
    inert contexts.Everywhere (Some class.AuthConfig) (codes "SSLCipherSuite" ∷ []) ∷
    inert contexts.Everywhere None (codes "ServerSignature" ∷ []) ∷
    inert contexts.AllButHtaccess None (codes "HostnameLookups LogLevel" ∷ []) ∷ [])

-- What this name stands for.
abbrev pub meaning_of : List ℕ → Option Meaning
meaning_of name = option_map (λ kind. kind.meaning) (find_in directive_rows name)
